-- A file that is written is read.
use Rattle.std.proofs.Common.{◌≡◌, ℕ, ◌+◌, ◌≤◌, true, List, [], ◌∷◌, ◌++◌, length, take, Ok, sym, refl, ap, ◌∙◌, arith}
use Rattle.std.specs.List.{flat_map}
use Rattle.std.proofs.lemmas.List.{append-nil, length-take-le, nil_from_length}
use Rattle.std.proofs.lemmas.Bool.Decides.{nat_tests}
use Rattle.fields.specs.declared.field.Kind.TheVariants as kind
use Rattle.fields.proofs.Frames.{reads}
use Rattle.graph.specs.declared.channel.Channel.{Channel}
use Rattle.graph.specs.Channels.{blank}
use Rattle.graph.specs.declared.actor.Actor.{Actor}
use Rattle.graph.specs.declared.reading.Parts.{Parts}
use Rattle.graph.specs.Rules.{headed, nobody, vacant, GoodActor, GoodActors, GoodChannel, GoodChannels}
use Rattle.graph.specs.File.{head_bytes, head_of, actor_bytes, channel_bytes, written, one_actor, one_channel, many_of, end_of, channels_of, actors_of, file_of}
use Rattle.graph.specs.Answers.{Filled, Stated}
use Rattle.graph.proofs.Actors.{one_actor_lem, one_channel_lem}
use Rattle.graph.proofs.Many.{many_read}

-- each part read, what is answered hangs on the rest
pub past_head : (xs : List ℕ) (n m : ℕ) (rest : List ℕ) → xs ≡ head_bytes n m ++ rest → headed n m ≡ true
    → file_of xs ≡ actors_of n m rest
past_head xs n m rest e h =
    let k : head_of xs ≡ Ok (n, m, rest) = rw e (rw (reads kind.Head 0 (n ∷ m ∷ []) rest refl) (rw h refl)) in
    rw k refl

pub past_actors : (n m : ℕ) (xs : List ℕ) (us : List Actor) (rest : List ℕ) → xs ≡ flat_map actor_bytes us ++ rest → GoodActors us
    → length us ≡ n → actors_of n m xs ≡ channels_of n m us rest
past_actors n m xs us rest e g l =
    let k : many_of one_actor 1 xs n ≡ Ok (us, rest) = rw e (many_read nobody actor_bytes GoodActor one_actor one_actor_lem 1 us rest n g l) in
    rw k refl

pub past_channels : (n m : ℕ) (us : List Actor) (xs : List ℕ) (cs : List Channel) (rest : List ℕ)
    → xs ≡ flat_map channel_bytes cs ++ rest → GoodChannels n cs → length cs ≡ m → channels_of n m us xs ≡ end_of n m us cs rest
past_channels n m us xs cs rest e g l =
    let k : many_of (one_channel n) (1 + n) xs m ≡ Ok (cs, rest) =
    rw e (many_read blank channel_bytes (GoodChannel n) (one_channel n) (one_channel_lem n) (1 + n) cs rest m g l) in
    rw k refl

-- the round trip: what is written reads back
pub file_read : (us : List Actor) (cs : List Channel) → headed (length us) (length cs) ≡ true → GoodActors us
    → GoodChannels (length us) cs → file_of (written us cs) ≡ Ok (us, cs)
file_read us cs h g k =
    past_head (written us cs) (length us) (length cs) _ refl h
    ∙ (past_actors (length us) (length cs) _ us (flat_map channel_bytes cs) refl g refl
    ∙ past_channels (length us) (length cs) us _ cs [] (sym (append-nil (flat_map channel_bytes cs))) k refl)

-- the limits of a head, one by one
pub head_bounds : (n m : ℕ) → headed n m ≡ true → (1 ≤ n) × (n ≤ 16) × (m ≤ 32)
head_bounds n m h =
    let a : 1 ≤ n = grind (arith, nat_tests) in
    let b : n ≤ 16 = grind (arith, nat_tests) in
    let c : m ≤ 32 = grind (arith, nat_tests) in
    (a, b, c)

-- head, actors and channels read: what is answered hangs on the bytes after them
module _ (xs : List ℕ) (n m : ℕ) (first second third : List ℕ) (us : List Actor) (cs : List Channel)
    (h : headed n m ≡ true) (e : xs ≡ head_bytes n m ++ first) (f : Filled nobody vacant 16 actor_bytes GoodActor first us n second)
    (g : Filled blank blank 32 channel_bytes (GoodChannel n) second cs m third) where
  actors_many : length (take n us) ≡ n
  actors_many = length-take-le n us (omega (arith, f.size, head_bounds n m h))

  channels_many : length (take m cs) ≡ m
  channels_many = length-take-le m cs (omega (arith, g.size, head_bounds n m h))

  pub past_all : file_of xs ≡ end_of n m (take n us) (take m cs) third
  past_all =
      past_head xs n m first e h
      ∙ (past_actors n m first (take n us) second f.as_written f.good actors_many
      ∙ past_channels n m (take n us) second (take m cs) third g.as_written g.good channels_many)

  -- with none after them the file states them
  pub all_stated : length third ≡ 0 → Stated xs (record { actors = us; n = n; channels = cs; m = m })
  all_stated z =
      let t = nil_from_length third z in
      record {
        counted = h;
        size = (f.size, g.size);
        good = f.good;
        sound = g.good;
        unused = (f.unused_after, g.unused_after);
        as_written =
            rw (actors_many, channels_many) (e ∙ ap (λ (l : List ℕ). head_bytes n m ++ l) (f.as_written ∙ ap (λ (l : List ℕ). flat_map actor_bytes (take n us) ++ l) (g.as_written ∙ rw t (append-nil (flat_map channel_bytes (take m cs))))));
      }

-- what is stated is as many as the head counts
module _ (xs : List ℕ) (parts : Parts) (s : Stated xs parts) where
  pub stated_actors : length (take parts.n parts.actors) ≡ parts.n
  stated_actors = length-take-le parts.n parts.actors (omega (arith, s.size, head_bounds parts.n parts.m s.counted))

  pub stated_channels : length (take parts.m parts.channels) ≡ parts.m
  stated_channels = length-take-le parts.m parts.channels (omega (arith, s.size, head_bounds parts.n parts.m s.counted))

  pub stated_read : file_of xs ≡ Ok (take parts.n parts.actors, take parts.m parts.channels)
  stated_read =
      rw s.as_written
      (file_read (take parts.n parts.actors) (take parts.m parts.channels) (rw (stated_actors, stated_channels) s.counted) s.good (rw stated_actors s.sound))
