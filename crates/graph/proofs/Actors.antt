-- An actor and a channel that are written are read.
use Rattle.std.proofs.Common.{◌≡◌, ℕ, ◌+◌, ◌*◌, ◌/◌, ◌%◌, List, ◌++◌, length, get_or, take, Ok, refl, arith, lit≤, length-append}
use Rattle.std.proofs.lemmas.List.{take_at, get_or-append_right}
use Rattle.fields.specs.declared.field.Kind.TheVariants as kind
use Rattle.fields.proofs.Frames.{reads}
use Rattle.graph.specs.declared.channel.Channel.{Channel}
use Rattle.graph.specs.declared.actor.Actor.{Actor}
use Rattle.graph.specs.Rules.{GoodActor, GoodChannel}
use Rattle.graph.specs.File.{two, actor_value, actor_bytes, one_actor, channel_value, channel_bytes, one_channel}

module _ (a : Actor) (e : length a.name ≡ 8) where
  name_is : take 8 (actor_value a) ≡ a.name
  name_is = take_at a.name (two a.time) 8 e

  time_is : get_or (actor_value a) 8 0 * 256 + get_or (actor_value a) 9 0 ≡ a.time
  time_is =
      rw (get_or-append_right a.name (two a.time) 8 8 0 e (lit≤ tt), get_or-append_right a.name (two a.time) 8 9 0 e (lit≤ tt))
      (omega arith)

pub one_actor_lem : (n : ℕ) (us : List Actor) (a : Actor) (rest : List ℕ) → GoodActor us a
    → one_actor n us (actor_bytes a ++ rest) ≡ Ok (a, rest)
one_actor_lem n us a rest l =
    rw (reads kind.Actor n (actor_value a) rest (simp length-append (omega (arith, l.0))))
    (rw (name_is a l.0, time_is a l.0, l.1, l.2, l.3) refl)

pub one_channel_lem : (actors n : ℕ) (cs : List Channel) (c : Channel) (rest : List ℕ) → GoodChannel actors cs c
    → one_channel actors n cs (channel_bytes c ++ rest) ≡ Ok (c, rest)
one_channel_lem actors n cs c rest l =
    let e : c.capacity / 256 * 256 + c.capacity % 256 ≡ c.capacity = omega arith in
    let f : c.tokens / 256 * 256 + c.tokens % 256 ≡ c.tokens = omega arith in
    rw (reads kind.Channel n (channel_value c) rest refl)
    (rw (e, f, l.0, l.1) refl)
