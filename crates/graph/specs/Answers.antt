-- What the parts of the reader answer: what is accepted is as written and keeps its rules, what is refused is refused by File.
-- Assumes nothing.
use Rattle.std.specs.Prelude.{◌≡◌, ℕ, ◌+◌, ◌-◌, ◌<◌, true, List, [], ◌++◌, map, length, take, drop, replicate, Ok, Err, Result}
use Rattle.std.specs.Borrow.{Bor}
use Rattle.std.specs.List.{flat_map}
use Rattle.graph.specs.Channels.{blank}
use Rattle.graph.specs.declared.channel.Channel.{Channel}
use Rattle.graph.specs.declared.actor.Actor.{Actor}
use Rattle.graph.specs.declared.actor.NameRow.{NameRow}
use Rattle.fields.specs.declared.fault.Fault.TheVariants.{More}
use Rattle.graph.specs.declared.fault.Fault.{Fault}
use Rattle.graph.specs.declared.fault.Fault.TheVariants.{Fields}
use Rattle.graph.specs.declared.head.Head.{Head}
use Rattle.graph.specs.declared.reading.Parts.{Parts}
use Rattle.graph.specs.Rules.{headed, nobody, vacant, GoodAfter, GoodActor, GoodChannel, GoodActors, GoodChannels, Each}
use Rattle.graph.specs.File.{head_bytes, head_of, actor_value, actor_bytes, actor_of, channel_value, channel_bytes, channel_of, actor_after, channel_at, one_actor, one_channel, many_of, written, file_of}

abbrev pub HeadIs : List ℕ → Result (Head × Bor (List ℕ)) Fault → Type 0
HeadIs xs (Ok r) = xs ≡ head_bytes r.0.actors r.0.channels ++ r.1.now
HeadIs xs (Err f) = head_of xs ≡ Err f

abbrev pub ActorValueIs : List ℕ → Actor → Type 0
ActorValueIs v a = (actor_of v ≡ a) × (v ≡ actor_value a) × (length a.name ≡ 8)

abbrev pub ChannelValueIs : List ℕ → Channel → Type 0
ChannelValueIs v c = (channel_of v ≡ c) × (v ≡ channel_value c)

abbrev pub ActorIs : ℕ → List (List ℕ) → List ℕ → Result (Actor × Bor (List ℕ)) Fault → Type 0
ActorIs n ns xs (Ok r) = (xs ≡ actor_bytes r.0 ++ r.1.now) × GoodAfter ns r.0
ActorIs n ns xs (Err f) = actor_after n ns xs ≡ Err f

-- the names that stand in the first rows of the table
abbrev pub kept : List NameRow → ℕ → List (List ℕ)
kept rows used = map (λ r. r.name) (take used rows)

abbrev pub ChannelIs : ℕ → ℕ → List ℕ → Result (Channel × Bor (List ℕ)) Fault → Type 0
ChannelIs actors n xs (Ok r) = (xs ≡ channel_bytes r.0 ++ r.1.now) × GoodChannel actors [] r.0
ChannelIs actors n xs (Err f) = channel_at actors n xs ≡ Err f

-- an array filled so far: so long, its first `i` as written before `rest`, each good, and the places after them unused
pub record Filled {X : Type 0} (d unused : X) (long : ℕ) (bytes : X → List ℕ) (Good : List X → X → Type 0) (xs : List ℕ) (list : List X) (i : ℕ) (rest : List ℕ) : Type 0 where
  pub size : length list ≡ long
  pub as_written : xs ≡ flat_map bytes (take i list) ++ rest
  pub good : Each d Good (take i list)
  pub unused_after : drop i list ≡ replicate (long - i) unused

abbrev pub ActorsIs : List ℕ → ℕ → Result (List Actor × Bor (List ℕ)) Fault → Type 0
ActorsIs xs n (Ok r) = Filled nobody vacant 16 actor_bytes GoodActor xs r.0 n r.1.now
ActorsIs xs n (Err f) = many_of one_actor 1 xs n ≡ Err f

abbrev pub ChannelsIs : ℕ → List ℕ → ℕ → Result (List Channel × Bor (List ℕ)) Fault → Type 0
ChannelsIs actors xs n (Ok r) = Filled blank blank 32 channel_bytes (GoodChannel actors) xs r.0 n r.1.now
ChannelsIs actors xs n (Err f) = many_of (one_channel actors) (1 + actors) xs n ≡ Err f

-- nothing follows the last field, or the field after it would
abbrev pub NoMoreIs : List ℕ → ℕ → ℕ → Result (Unit {0}) Fault → Type 0
NoMoreIs xs n m (Ok u) = length xs ≡ 0
NoMoreIs xs n m (Err e) = (0 < length xs) × (e ≡ Fields (More (1 + n + m)))

-- actors and channels that a file states, each good, and the file as written
pub record Stated (xs : List ℕ) (parts : Parts) : Type 0 where
  pub counted : headed parts.n parts.m ≡ true
  pub size : (length parts.actors ≡ 16) × (length parts.channels ≡ 32)
  pub good : GoodActors (take parts.n parts.actors)
  pub sound : GoodChannels parts.n (take parts.m parts.channels)
  pub unused : (drop parts.n parts.actors ≡ replicate (16 - parts.n) vacant) × (drop parts.m parts.channels ≡ replicate (32 - parts.m) blank)
  pub as_written : xs ≡ written (take parts.n parts.actors) (take parts.m parts.channels)

abbrev pub PartsIs : List ℕ → Result Parts Fault → Type 0
PartsIs xs (Ok parts) = Stated xs parts
PartsIs xs (Err f) = file_of xs ≡ Err f
