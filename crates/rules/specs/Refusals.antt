-- The numbers of 01's table, and 17 of 02 (P3), for what the code calls a refusal; 0 is the number of an answer that is none.
use Rattle.std.specs.Prelude.{ℕ, Result, Ok, Err}
use Rattle.rules.specs.declared.Refusal.{Refusal}
use Rattle.rules.specs.declared.Refusal.TheVariants.{WrongLength, OutOfRange, OutOfOrder, Stopped, AllZero, BlockUnfit, KeyNotHeld, ParametersUnfit, NotNewer, TreeUnfit, NotInForce, KeyUnfit, TooFar, NotWaiting, VerdictBad, NoSet, FieldsMissing}

abbrev pub refusal_number : Refusal → ℕ
refusal_number WrongLength = 1
refusal_number OutOfRange = 2
refusal_number OutOfOrder = 3
refusal_number Stopped = 4
refusal_number AllZero = 5
refusal_number BlockUnfit = 6
refusal_number KeyNotHeld = 7
refusal_number ParametersUnfit = 8
refusal_number NotNewer = 9
refusal_number TreeUnfit = 10
refusal_number NotInForce = 11
refusal_number KeyUnfit = 12
refusal_number TooFar = 13
refusal_number NotWaiting = 14
refusal_number VerdictBad = 15
refusal_number NoSet = 16
refusal_number FieldsMissing = 17

abbrev pub answer_number : {A : Type 0} → Result A Refusal → ℕ
answer_number (Ok _) = 0
answer_number (Err refusal) = refusal_number refusal
