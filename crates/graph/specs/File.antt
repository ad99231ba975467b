-- What a file says: actors and channels, or the first check that fails. Assumes nothing.
--
--   two, number_at                           a number in two bytes, high byte first; the number at a place of a value
--   head_bytes, actor_bytes, channel_bytes   head, actor and channel as they are written
--   written                                  a whole file
--   actor_of, channel_of                     what a value states
--   lift                                     a fault of the layer below, kept whole
--   head_of, actor_after, channel_at         one field read, with its checks in order
--   many_of                                  so many of a kind
--   end_of, channels_of, actors_of, file_of  the whole file
use Rattle.std.specs.Prelude.{ℕ, zero, suc, ◌+◌, ◌*◌, ◌/◌, ◌%◌, not, List, [], ◌∷◌, ◌++◌, length, take, Ok, Err, Result, ◌==◌, slice_index}
use Rattle.std.specs.List.{flat_map}
use Rattle.fields.specs.Checks.{check, next}
use Rattle.fields.specs.Field.{field_of, framed}
use Rattle.fields.specs.declared.field.Kind.TheVariants as kind
use Rattle.fields.specs.declared.fault.Fault.{Fault as FieldFault}
use Rattle.fields.specs.declared.fault.Fault.TheVariants.{More}
use Rattle.graph.specs.declared.channel.Channel.{Channel}
use Rattle.graph.specs.declared.actor.Actor.{Actor}
use Rattle.graph.specs.declared.fault.Fault.{Fault}
use Rattle.graph.specs.declared.fault.Fault.TheVariants.{Fields, Head, Name, Repeated, Time, End, Limit}
use Rattle.graph.specs.Rules.{headed, named, names, repeated, timed, ended, limited}

abbrev pub two : ℕ → List ℕ
two n = n / 256 ∷ n % 256 ∷ []

abbrev pub head_bytes : ℕ → ℕ → List ℕ
head_bytes n m = framed kind.Head (n ∷ m ∷ [])

abbrev pub actor_value : Actor → List ℕ
actor_value a = a.name ++ two a.time

abbrev pub actor_bytes : Actor → List ℕ
actor_bytes a = framed kind.Actor (actor_value a)

abbrev pub channel_value : Channel → List ℕ
channel_value c = c.source ∷ c.dest ∷ c.p ∷ c.q ∷ (two c.capacity ++ two c.tokens)

abbrev pub channel_bytes : Channel → List ℕ
channel_bytes c = framed kind.Channel (channel_value c)

abbrev pub written : List Actor → List Channel → List ℕ
written us cs = head_bytes (length us) (length cs) ++ (flat_map actor_bytes us ++ flat_map channel_bytes cs)

abbrev pub number_at : List ℕ → ℕ → ℕ
number_at v i = slice_index v i * 256 + slice_index v (i + 1)

abbrev pub actor_of : List ℕ → Actor
actor_of v = record { name = take 8 v; time = number_at v 8 }

abbrev pub channel_of : List ℕ → Channel
channel_of v =
    record { source = slice_index v 0; dest = slice_index v 1; p = slice_index v 2; q = slice_index v 3; capacity = number_at v 4; tokens = number_at v 6 }

abbrev pub lift : {A : Type 0} → Result A FieldFault → Result A Fault
lift (Ok a) = Ok a
lift (Err e) = Err (Fields e)

-- field 0: the two counts, and the bytes after it
abbrev pub head_of : List ℕ → Result (ℕ × ℕ × List ℕ) Fault
head_of xs =
    next (lift (field_of xs kind.Head 0))
    (λ f. check (headed (slice_index f.0 0) (slice_index f.0 1)) (Head 0) (Ok (slice_index f.0 0, slice_index f.0 1, f.1)))

-- the checks of one more actor, in the field of that number, and of one more channel
abbrev pub actor_after : ℕ → List (List ℕ) → List ℕ → Result (Actor × List ℕ) Fault
actor_after n ns xs =
    next (lift (field_of xs kind.Actor n))
    (λ f. check (named (actor_of f.0).name) (Name n)
    (check (not (repeated ns (actor_of f.0).name)) (Repeated n)
    (check (timed (actor_of f.0).time) (Time n) (Ok (actor_of f.0, f.1)))))

abbrev pub one_actor : ℕ → List Actor → List ℕ → Result (Actor × List ℕ) Fault
one_actor n us xs = actor_after n (names us) xs

abbrev pub channel_at : ℕ → ℕ → List ℕ → Result (Channel × List ℕ) Fault
channel_at actors n xs =
    next (lift (field_of xs kind.Channel n))
    (λ f. check (ended actors (channel_of f.0)) (End n)
    (check (limited (channel_of f.0)) (Limit n) (Ok (channel_of f.0, f.1))))

abbrev pub one_channel : ℕ → ℕ → List Channel → List ℕ → Result (Channel × List ℕ) Fault
one_channel actors n cs xs = channel_at actors n xs

-- so many of a kind, the first in the field of that number, and the bytes after them
abbrev pub many_of : {X : Type 0} → (ℕ → List X → List ℕ → Result (X × List ℕ) Fault) → ℕ → List ℕ → ℕ
    → Result (List X × List ℕ) Fault
many_of one n xs zero = Ok ([], xs)
many_of one n xs (suc i) = next (many_of one n xs i) (λ s. next (one (n + i) s.0 s.1) (λ t. Ok (s.0 ++ t.0 ∷ [], t.1)))

-- the whole file, from the end: no bytes after the last field; channels; actors; head
abbrev pub end_of : ℕ → ℕ → List Actor → List Channel → List ℕ → Result (List Actor × List Channel) Fault
end_of n m us cs xs = check (length xs == 0) (Fields (More (1 + n + m))) (Ok (us, cs))

abbrev pub channels_of : ℕ → ℕ → List Actor → List ℕ → Result (List Actor × List Channel) Fault
channels_of n m us xs = next (many_of (one_channel n) (1 + n) xs m) (λ s. end_of n m us s.0 s.1)

abbrev pub actors_of : ℕ → ℕ → List ℕ → Result (List Actor × List Channel) Fault
actors_of n m xs = next (many_of one_actor 1 xs n) (λ s. channels_of n m s.0 s.1)

abbrev pub file_of : List ℕ → Result (List Actor × List Channel) Fault
file_of xs = next (head_of xs) (λ h. actors_of h.0 h.1 h.2)
