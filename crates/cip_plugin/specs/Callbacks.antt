-- The callbacks of all kinds of plugins, and what a plugin is called for, as they are told.
use Rattle.std.specs.Prelude.{Bool, true, false, Option, None, Some, Result, Ok, is_ok}
use Rattle.std.specs.declared.alloc.AllocError.{AllocError}
use Rattle.cip_plugin.specs.declared.asking.Given.{Given}
use Rattle.cip_plugin.specs.declared.called.Callback.{Callback}
use Rattle.cip_plugin.specs.declared.called.Callback.TheVariants as callbacks
use Rattle.cip_plugin.specs.declared.called.Request.{Request}
use Rattle.cip_plugin.specs.declared.called.Request.TheVariants as requests
use Rattle.cip_plugin.specs.declared.kinds.Kind.{Kind}
use Rattle.cip_plugin.specs.Answers.{answer}
use Rattle.cip_plugin.specs.Asking.{answer_of, ask_of, asks}
use Rattle.cip_plugin.specs.Calls.{Answer, Asked, Call, Init, InitSolve, ExitSolve, Exit, NoAnswer}

-- a callback, and whether memory was there, as they are told
abbrev pub call_of : Callback → Bool → Call
call_of (callbacks.Init alloc) was = Init was
call_of (callbacks.InitSolve alloc view) was = InitSolve was
call_of callbacks.ExitSolve was = ExitSolve
call_of callbacks.Exit was = Exit

-- what is given, if anything is, as it is told
abbrev pub answer_given : Option Given → Answer
answer_given None = NoAnswer
answer_given (Some given) = answer_of given

-- a request, and what came of it, as they are told
abbrev pub call_for : Request → Result (Option Given) AllocError → Call
call_for (requests.Callback callback) result = call_of callback (is_ok result)
call_for (requests.Question question alloc view) result = Asked (ask_of question) (answer result answer_given)

-- whether a plugin of a kind is called for it
abbrev pub suits : Kind → Request → Bool
suits kind (requests.Callback callback) = true
suits kind (requests.Question question alloc view) = asks kind (ask_of question)

-- whether something is given where it was asked for
abbrev pub has_given : Request → Result (Option Given) AllocError → Bool
has_given (requests.Question question alloc view) (Ok None) = false
has_given request result = true
