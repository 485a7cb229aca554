pub mod StillTaken
