-- The rules that head, actors and channels keep, one by one. Assumes nothing.
--
--   vacant, nobody           the actor of an unused place; the one past the end of a list
--   headed                   1 to 16 actors, 0 to 32 channels
--   printable, goes, formed  the bytes of a name
--   named                    one to eight printable bytes, filled up with zeros
--   names, repeated          the names of some actors; whether one is among them
--   timed                    1 to 4095 ticks
--   ended                    both ends are actors
--   limited                  rates from 1, capacity 1 to 4096, tokens up to the capacity
--   GoodActor, GoodChannel   what an actor and a channel keep, after those before it
--   Each                     each item of a list keeps a rule
use Rattle.std.specs.Prelude.{◌≡◌, ℕ, ◌<◌, Bool, true, false, not, ◌&&◌, ◌||◌, List, [], ◌∷◌, map, length, take, replicate, ◌==◌, nat_le, nat_lt, slice_index, slice_index_or}
use Rattle.std.specs.Str.{bytes_eq}
use Rattle.graph.specs.Channels.{blank}
use Rattle.graph.specs.declared.channel.Channel.{Channel}
use Rattle.graph.specs.declared.actor.Actor.{Actor}

abbrev pub vacant : Actor
vacant = record { name = replicate 8 0; time = 0 }

abbrev pub nobody : Actor
nobody = record { name = []; time = 0 }

abbrev pub headed : ℕ → ℕ → Bool
headed n m = nat_le 1 n && (nat_le n 16 && nat_le m 32)

abbrev pub printable : ℕ → Bool
printable b = nat_le 33 b && nat_le b 126

-- a byte that may come next in a name; `over` says that a zero has been
abbrev pub goes : Bool → ℕ → Bool
goes over b = b == 0 || (not over && printable b)

-- printable bytes, and zeros from the first zero on
abbrev pub formed : Bool → List ℕ → Bool
formed over [] = true
formed over (b ∷ bs) = goes over b && formed (b == 0) bs

abbrev pub named : List ℕ → Bool
named bs = formed false bs && not (slice_index bs 0 == 0)

abbrev pub names : List Actor → List (List ℕ)
names us = map (λ a. a.name) us

abbrev pub repeated : List (List ℕ) → List ℕ → Bool
repeated [] name = false
repeated (n ∷ ns) name = bytes_eq n name || repeated ns name

abbrev pub timed : ℕ → Bool
timed t = nat_le 1 t && nat_le t 4095

-- the ends of a channel are two of so many actors
abbrev pub ended : ℕ → Channel → Bool
ended actors c = nat_lt c.source actors && nat_lt c.dest actors

-- rates, capacity and tokens
abbrev pub limited : Channel → Bool
limited c = nat_le 1 c.p && (nat_le 1 c.q && (nat_le 1 c.capacity && (nat_le c.capacity 4096 && nat_le c.tokens c.capacity)))

-- what an actor keeps, after those before it
abbrev pub GoodAfter : List (List ℕ) → Actor → Type 0
GoodAfter ns a = (length a.name ≡ 8) × (named a.name ≡ true) × (repeated ns a.name ≡ false) × (timed a.time ≡ true)

abbrev pub GoodActor : List Actor → Actor → Type 0
GoodActor before a = GoodAfter (names before) a

-- what a channel keeps, whatever those before it are
abbrev pub GoodChannel : ℕ → List Channel → Channel → Type 0
GoodChannel actors before c = (ended actors c ≡ true) × (limited c ≡ true)

-- each item of a list keeps a rule, after those before it
abbrev pub Each : {X : Type 0} → X → (List X → X → Type 0) → List X → Type 0
Each d Good us = (k : ℕ) → k < length us → Good (take k us) (slice_index_or us k d)

abbrev pub GoodActors : List Actor → Type 0
GoodActors us = Each nobody GoodActor us

abbrev pub GoodChannels : ℕ → List Channel → Type 0
GoodChannels actors cs = Each blank (GoodChannel actors) cs
