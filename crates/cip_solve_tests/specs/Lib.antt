pub mod ToldCalls
