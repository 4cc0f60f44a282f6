-- Which stream of a run a file is, and whether a run reads what it answers.
use Rattle.std.specs.Prelude.{None, Option, Some, true, ◌≡◌, ◌≢◌}
use Rattle.ep_program.specs.declared.streams.FileId.{FileId}
use Rattle.ep_program.specs.declared.streams.Stream.{Stream}
use Rattle.ep_program.specs.declared.streams.Stream.TheVariants.{Script, Input, Output, Errors}
use Rattle.ep_program.specs.declared.streams.Streams.{Streams}

-- the first stream that is the file, or none if none is
abbrev pub IsFirst : FileId → Streams → Option Stream → Type 0
IsFirst file s (Some Script) = s.script ≡ Some file
IsFirst file s (Some Input) = (s.script ≢ Some file) × (s.input ≡ Some file)
IsFirst file s (Some Output) = (s.script ≢ Some file) × (s.input ≢ Some file) × (s.output ≡ Some file)
IsFirst file s (Some Errors) = (s.script ≢ Some file) × (s.input ≢ Some file) × (s.output ≢ Some file) × (s.errors ≡ Some file)
IsFirst file s None = (s.script ≢ Some file) × (s.input ≢ Some file) × (s.output ≢ Some file) × (s.errors ≢ Some file)

-- what is read is the file into which the answers go, and keeps them
abbrev pub AreAnswersRead : Option FileId → Streams → Type 0
AreAnswersRead (Some file) s = (s.keeps_answers ≡ true) × (s.output ≡ Some file)
AreAnswersRead None s = ⊥
