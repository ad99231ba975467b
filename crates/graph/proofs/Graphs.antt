-- A graph's file is as long as its fields, and reads back as the graph.
use Rattle.std.proofs.Common.{◌≡◌, ℕ, suc, ◌+◌, ◌-◌, ◌*◌, ◌<◌, true, List, [], ◌∷◌, length, get_or, take, drop, replicate, Ok, Err, Result, sym, refl, ap, ◌∙◌, mul-suc, arith, length-append}
use mathlib.Core.Logic.{∥∥₁_elim}
use mathlib.Core.HLevel.{⊥_prop}
use denote.Struct.Cover.{Cover, Cover-one}
use Rattle.std.specs.List.{flat_map}
use Rattle.std.proofs.lemmas.List.{length-take-le, take-append-drop, ext_get_or}
use Rattle.std.proofs.lemmas.Bool.Decides.{nat_tests}
use Rattle.graph.specs.contracts.actor.Actor as actor
use Rattle.graph.specs.contracts.channel.Channel as channel
use Rattle.graph.specs.contracts.graph.Graph as made
use Rattle.graph.specs.declared.fault.Fault.{Fault}
use Rattle.graph.specs.declared.fault.Fault.TheVariants.{Fields, Head, Name, Repeated, Time, End, Limit, Apart, Unbalanced}
use Rattle.graph.specs.declared.graph.Graph.{Graph}
use Rattle.graph.specs.Channels.{blank}
use Rattle.graph.specs.Counts.{at}
use Rattle.graph.specs.Rules.{headed, nobody, vacant}
use Rattle.graph.specs.File.{actor_bytes, channel_bytes, file_of}
use Rattle.graph.specs.Meaning.{actors_in, channels_in, writing, Judged, ReadsBack}
use Rattle.graph.proofs.Files.{file_read}

sized : {X : Type 0} (size : ℕ) (bytes : X → List ℕ) (d : X) (us : List X) → ((k : ℕ) → k < length us → length (bytes (get_or us k d)) ≡ size)
    → length (flat_map bytes us) ≡ size * length us
sized size bytes d [] h = omega arith
sized size bytes d (u ∷ us) h =
    simp length-append (omega (arith, h 0 (omega arith), sized size bytes d us (λ k l. h (suc k) (omega arith)), mul-suc size (length us)))

module _ (g : Graph) where
  pub actors_are : length (actors_in g) ≡ g.n
  actors_are = length-take-le g.n g.actors (omega (arith, g.few, g.full))

  pub channels_are : length (channels_in g) ≡ g.m
  channels_are = length-take-le g.m g.channels (omega (arith, g.few, g.full))

  pub actors_size : length (flat_map actor_bytes (actors_in g)) ≡ 13 * g.n
  actors_size = sized 13 actor_bytes nobody (actors_in g) (λ k h. simp length-append (omega (arith, (g.named k h).0))) ∙ ap (λ (n : ℕ). 13 * n) actors_are

  pub channels_size : length (flat_map channel_bytes (channels_in g)) ≡ 11 * g.m
  channels_size = sized 11 channel_bytes blank (channels_in g) (λ k h. refl) ∙ ap (λ (n : ℕ). 11 * n) channels_are

  pub size_is : length (writing g) ≡ 5 + 13 * g.n + 11 * g.m
  size_is = simp length-append (omega (arith, actors_size, channels_size))

  says : file_of (writing g) ≡ Ok (actors_in g, channels_in g)
  says =
      let h : headed (length (actors_in g)) (length (channels_in g)) ≡ true =
      rw (actors_are, channels_are) (grind (arith, nat_tests, g.few)) in
      file_read (actors_in g) (channels_in g) h g.named (rw actors_are g.limited)

-- a graph is its stored values: the facts about them have one proof each
abbrev stored : Cover Graph made.the_values (made.struct).as_values
stored = record {
  Ghost = made.the_ghost;
  ghosts = (made.struct).ghosts;
  make = (made.struct).make;
  eta = (made.struct).eta;
  beta = (made.struct).beta;
}

-- two lists that begin alike and go on with the same number of the same item are one
padded : {X : Type 0} (n k : ℕ) (u : X) (xs ys : List X) → take n xs ≡ take n ys → drop n xs ≡ replicate k u → drop n ys ≡ replicate k u → xs ≡ ys
padded n k u xs ys e f g = sym (take-append-drop n xs) ∙ (rw (e, f, ← g) (take-append-drop n ys))

-- a graph is its actors and channels: the counts are the least, and the places after them are unused
module _ (g h : Graph) (e : actors_in h ≡ actors_in g) (f : channels_in h ≡ channels_in g) where
  n_is : h.n ≡ g.n
  n_is = sym (actors_are h) ∙ (ap length e ∙ actors_are g)

  m_is : h.m ≡ g.m
  m_is = sym (channels_are h) ∙ (ap length f ∙ channels_are g)

  counts_are : h.counts ≡ g.counts
  counts_are =
      ext_get_or 0 h.counts g.counts (omega (arith, g.full, h.full))
      (λ a _.
      let up = h.least (at g.counts) (rw (n_is, f) g.solves) a in
      let down = g.least (at h.counts) (rw (← n_is, ← f) h.solves) a in
      omega arith)

  actors_same : h.actors ≡ g.actors
  actors_same = padded g.n (16 - g.n) vacant h.actors g.actors (rw n_is at e) (rw n_is at h.idle_actors) g.idle_actors

  channels_same : h.channels ≡ g.channels
  channels_same = padded g.m (32 - g.m) blank h.channels g.channels (rw m_is at f) (rw m_is at h.idle_channels) g.idle_channels

  one_graph : h ≡ g
  one_graph =
      Cover-one stored (made.the_propositions (actor.the_row).coded (channel.the_row).coded) h g
      (λ i. (actors_same i, (channels_same i, (n_is i, (m_is i, (counts_are i, tt))))))

judged : (g : Graph) (r : Result Graph Fault) → Judged (actors_in g) (channels_in g) r → r ≡ Ok g
judged g (Ok h) j = ap Ok (one_graph g h j.0 j.1)
judged g (Err (Apart a)) j = absurd (∥∥₁_elim (g.whole a (rw (actors_are g) at j.0)) ⊥_prop j.1)
judged g (Err (Fields e)) j = absurd j
judged g (Err (Head n)) j = absurd j
judged g (Err (Name n)) j = absurd j
judged g (Err (Repeated n)) j = absurd j
judged g (Err (Time n)) j = absurd j
judged g (Err (End n)) j = absurd j
judged g (Err (Limit n)) j = absurd j
judged g (Err Unbalanced) j = absurd (j.1 (at g.counts) (rw (actors_are g) g.solves) (λ a _. g.small a))

pub reads_back : (g : Graph) → ReadsBack g
reads_back g r h = judged g r (rw (says g) at h)
