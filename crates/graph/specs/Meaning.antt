-- What reading and writing a graph answer. Assumes nothing.
--
--   actors_in, channels_in, counts_in  what a graph has
--   writing                            its file
--   Judged, ReadBy                     the answer of `read`, from what the file says
--   ReadsBack                          the written graph reads back as that graph
--   WriteIs, PutAllIs                  the answers of `write`, and of writing parts one after another
use Rattle.std.specs.Prelude.{◌≡◌, ℕ, ◌+◌, ◌<◌, List, ◌++◌, length, take, drop, Some, None, Ok, Err, Result}
use Rattle.fields.specs.declared.fault.Fault.{Fault as FieldFault}
use Rattle.fields.specs.declared.fault.Fault.TheVariants.{Small}
use Rattle.fields.specs.declared.writing.Writer.{Writer}
use Rattle.fields.specs.Writing.{Puts}
use Rattle.graph.specs.declared.channel.Channel.{Channel}
use Rattle.graph.specs.Counts.{CountsIs}
use Rattle.graph.specs.Piece.{ApartIs}
use Rattle.graph.specs.declared.actor.Actor.{Actor}
use Rattle.graph.specs.declared.fault.Fault.{Fault}
use Rattle.graph.specs.declared.fault.Fault.TheVariants.{Fields, Head, Name, Repeated, Time, End, Limit, Apart, Unbalanced}
use Rattle.graph.specs.declared.graph.Graph.{Graph}
use Rattle.graph.specs.File.{written, file_of}

abbrev pub actors_in : Graph → List Actor
actors_in g = take g.n g.actors

abbrev pub channels_in : Graph → List Channel
channels_in g = take g.m g.channels

abbrev pub counts_in : Graph → List ℕ
counts_in g = take g.n g.counts

abbrev pub writing : Graph → List ℕ
writing g = written (actors_in g) (channels_in g)

-- the verdict on actors and channels that keep the rules one by one: the graph of these, 11 or 12
abbrev pub Judged : List Actor → List Channel → Result Graph Fault → Type 0
Judged us cs (Ok g) = (actors_in g ≡ us) × (channels_in g ≡ cs)
Judged us cs (Err (Apart a)) = ApartIs (length us) cs (Some a)
Judged us cs (Err Unbalanced) = ApartIs (length us) cs None × CountsIs (length us) cs None
Judged us cs (Err (Fields e)) = ⊥
Judged us cs (Err (Head n)) = ⊥
Judged us cs (Err (Name n)) = ⊥
Judged us cs (Err (Repeated n)) = ⊥
Judged us cs (Err (Time n)) = ⊥
Judged us cs (Err (End n)) = ⊥
Judged us cs (Err (Limit n)) = ⊥

-- what is read off what the file says
abbrev pub ReadBy : Result (List Actor × List Channel) Fault → Result Graph Fault → Type 0
ReadBy (Ok s) r = Judged s.0 s.1 r
ReadBy (Err f) r = r ≡ Err f

-- whatever reading the written graph answers is that graph
abbrev pub ReadsBack : Graph → Type 0
ReadsBack g = (r : Result Graph Fault) → ReadBy (file_of (writing g)) r → r ≡ Ok g

-- a writing of `w` into a buffer that held `xs` and holds `ys`
abbrev pub WriteIs : List ℕ → List ℕ → List ℕ → Result ℕ Fault → Type 0
WriteIs w xs ys (Ok n) = (n ≡ length w) × (ys ≡ w ++ drop n xs)
WriteIs w xs ys (Err f) = (f ≡ Fields Small) × (length xs < length w) × (ys ≡ xs)

-- `w` written from the writer's place on, field by field; or it does not fit
abbrev pub PutAllIs : List ℕ → Writer → Writer → Result (Unit {0}) FieldFault → Type 0
PutAllIs w old new (Ok u) = Puts w old new
PutAllIs w old new (Err e) = (e ≡ Small) × (length old.buffer.now < old.at + length w)
