-- The numbers of each refusal, in the order in which they are written out.
use Rattle.std.specs.Prelude.{ℕ, List, [], ◌∷◌}
use Rattle.model.specs.declared.fault.LinkFault.{LinkFault}
use Rattle.model.specs.declared.fault.LinkFault.TheVariants.{NoSuchLink, PastLastTime, BelowFloor, Full, NothingWaits}
use Rattle.model.specs.declared.fault.SettingFault.{SettingFault}
use Rattle.model.specs.declared.fault.SettingFault.TheVariants as setting
use Rattle.model.specs.declared.reading.Problem.{Problem}
use Rattle.model.specs.declared.reading.Problem.TheVariants.{Malformed, OutOfRange, UnknownWord, NotNext, Absent}
use Rattle.model.specs.declared.reading.FieldFault.{FieldFault}
use Rattle.model.specs.declared.reading.RecordFault.{RecordFault}
use Rattle.model.specs.declared.reading.RecordFault.TheVariants.{InField, NotNineFields, TooMany, BackInTime}
use Rattle.model.specs.declared.reading.PlanFault.{PlanFault}
use Rattle.model.specs.declared.reading.PlanFault.TheVariants.{InRecord, TooLong, NoProcess}
use Rattle.model.specs.declared.reading.LineFault.{LineFault}
use Rattle.model.specs.declared.reading.LineFault.TheVariants.{ShortBuffer}
use Rattle.model.specs.declared.refusal.Cause.{Cause}
use Rattle.model.specs.declared.refusal.Cause.TheVariants.{Early, TooFar, Overtaking}
use Rattle.model.specs.declared.refusal.Refusal.{Refusal}
use Rattle.model.specs.declared.refusal.Refusal.TheVariants.{NoSuch, Held, LogFull, Breached}
use Rattle.model.specs.declared.refusal.Unprepared.{Unprepared}
use Rattle.model.specs.declared.refusal.Unprepared.TheVariants.{WrongNumbers, NotFresh, NotOutside, LinkRefused, NoMemory}

-- What is wrong with a field.
abbrev pub problem_number : Problem → ℕ
problem_number Malformed = 1
problem_number OutOfRange = 3
problem_number UnknownWord = 4
problem_number NotNext = 5
problem_number Absent = 6

-- A field: what is wrong, its line and its place in the line.
abbrev pub field_numbers : FieldFault → List ℕ
field_numbers f = problem_number f.problem ∷ f.line ∷ f.field ∷ []

-- A record: what is wrong, and its line.
abbrev pub record_numbers : RecordFault → List ℕ
record_numbers (InField f) = field_numbers f
record_numbers (NotNineFields line) = 2 ∷ line ∷ []
record_numbers (TooMany line) = 7 ∷ line ∷ []
record_numbers (BackInTime line) = 8 ∷ line ∷ []

-- A text that is no plan.
abbrev pub plan_numbers : PlanFault → List ℕ
plan_numbers (InRecord f) = record_numbers f
plan_numbers TooLong = 9 ∷ []
plan_numbers NoProcess = 9 ∷ []

-- A fault of a link, and the layer that it names: 0 but where no place is free.
abbrev pub fault_number : LinkFault → ℕ
fault_number NoSuchLink = 15
fault_number PastLastTime = 16
fault_number BelowFloor = 17
fault_number (Full layer) = 18
fault_number NothingWaits = 19

abbrev pub fault_layer : LinkFault → ℕ
fault_layer NoSuchLink = 0
fault_layer PastLastTime = 0
fault_layer BelowFloor = 0
fault_layer (Full layer) = layer
fault_layer NothingWaits = 0

abbrev pub fault_numbers : LinkFault → List ℕ
fault_numbers f = fault_number f ∷ fault_layer f ∷ []

-- A setting of a layer: no such link is told as by a link.
abbrev pub setting_numbers : SettingFault → List ℕ
setting_numbers setting.NoSuchLink = 15 ∷ 0 ∷ []
setting_numbers setting.Unsuitable = 20 ∷ []

-- Why a run is not prepared: the link, and what is wrong there. Want of memory has no number of its own.
abbrev pub unprepared_numbers : Unprepared → List ℕ
unprepared_numbers WrongNumbers = 10 ∷ 0 ∷ 0 ∷ []
unprepared_numbers (NotFresh link) = 10 ∷ link ∷ 0 ∷ []
unprepared_numbers (NotOutside link) = 10 ∷ link ∷ 6 ∷ []
unprepared_numbers (LinkRefused link f) = 10 ∷ link ∷ fault_number f ∷ []
unprepared_numbers NoMemory = 0 ∷ []

-- Why a sending is a breach.
abbrev pub cause_number : Cause → ℕ
cause_number Early = 1
cause_number TooFar = 2
cause_number Overtaking = 3

-- A step or a question.
abbrev pub refusal_numbers : Refusal → List ℕ
refusal_numbers NoSuch = 11 ∷ []
refusal_numbers (Held link) = 12 ∷ link ∷ []
refusal_numbers LogFull = 13 ∷ []
refusal_numbers (Breached b) = 14 ∷ b.process ∷ b.link ∷ b.time ∷ cause_number b.cause ∷ []

-- A line that is not written.
abbrev pub line_numbers : LineFault → List ℕ
line_numbers ShortBuffer = 21 ∷ []
