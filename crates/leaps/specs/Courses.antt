-- What the ends and the starts of a tick do to a course. Assumes nothing.
--
-- until_at    the tick at which the actor's firing under way ends, if it has one
-- idle        the actor has no firing under way
-- can_start   a woken actor is ready
-- StartedOne  the actor has started, if it can
-- Started     so have all below i
-- Woken       an end has marked those below i of the actors that it may make ready
-- Roomy       what an end gives finds room
-- is_over     the actor's firing ends at a tick
-- EndedOne    the actor's firing has ended, if it is over
-- Ended       so have those of all below i
-- Soonest     the least tick of an end among the actors below i, if one is to come
use Rattle.std.specs.Prelude.{◌≡◌, ℕ, ◌+◌, ◌-◌, ◌<◌, ◌≤◌, Bool, true, false, if◌then◌else◌, ◌&&◌, ◌||◌, Option, Some, None, IsSomeAnd, is_none, List, length, ◌==◌, nat_lt, slice_index_or}
use Rattle.std.specs.Option.{option_map_or}
use Rattle.model.specs.Net.{when}
use Rattle.runs.specs.Loops.{flag}
use Rattle.runs.specs.Seen.{at}
use Rattle.leaps.specs.declared.moves.Moves.{Moves}
use Rattle.leaps.specs.declared.course.Course.{Course}
use Rattle.leaps.specs.Stores.{store_at, owner_is, rate_of}
use Rattle.leaps.specs.Moves.{has_all}
use Rattle.leaps.specs.Plans.{wakes_at}

abbrev pub until_at : Course → ℕ → Option ℕ
until_at k a = slice_index_or k.until a None

abbrev pub idle : Course → ℕ → Bool
idle k a = is_none (until_at k a)

abbrev pub can_start : Moves → Course → ℕ → Bool
can_start m k a = flag k.woken a && (idle k a && has_all m a k.levels)

pub record StartedOne (m : Moves) (a end : ℕ) (k z : Course) : Type 0 where
  pub levels : (e : ℕ) → e < 64 → at z.levels e ≡ at k.levels e - when (can_start m k a) (rate_of m.stores a e)
  pub until : (b : ℕ) → until_at z b ≡ (if can_start m k a && b == a then Some end else until_at k b)
  pub woken : z.woken ≡ k.woken

pub record Started (m : Moves) (i : ℕ) (times : List ℕ) (tick : ℕ) (k z : Course) : Type 0 where
  pub levels : (e : ℕ) → e < 64 → at z.levels e ≡ at k.levels e - when (owner_is (store_at m.stores e) (λ a. nat_lt a i && can_start m k a)) (store_at m.stores e).rate
  pub until : (b : ℕ) → until_at z b ≡ (if nat_lt b i && can_start m k b then Some (tick + at times b) else until_at k b)
  pub woken : z.woken ≡ k.woken

pub record Woken (i : ℕ) (wakes xs ys : List Bool) : Type 0 where
  pub size : length ys ≡ 16
  pub are : (b : ℕ) → b < i → flag ys b ≡ (flag xs b || flag wakes b)
  pub stay : (b : ℕ) → i ≤ b → flag ys b ≡ flag xs b

abbrev pub Roomy : Moves → ℕ → Course → Type 0
Roomy m a k = (e : ℕ) → e < 64 → at k.levels e + rate_of m.stores a e < 65536

abbrev pub is_over : Course → ℕ → ℕ → Bool
is_over k tick a = option_map_or (λ end. end == tick) (until_at k a) false

pub record EndedOne (m : Moves) (wakes : List (List Bool)) (a tick : ℕ) (k z : Course) : Type 0 where
  pub levels : (e : ℕ) → e < 64 → at z.levels e ≡ at k.levels e + when (is_over k tick a) (rate_of m.stores a e)
  pub until : (b : ℕ) → until_at z b ≡ (if is_over k tick a && b == a then None else until_at k b)
  pub woken : (b : ℕ) → b < 16 → flag z.woken b ≡ (flag k.woken b || (is_over k tick a && wakes_at wakes a b))

pub record Ended (m : Moves) (wakes : List (List Bool)) (i tick : ℕ) (k z : Course) : Type 0 where
  pub levels : (e : ℕ) → e < 64 → at z.levels e ≡ at k.levels e + when (owner_is (store_at m.stores e) (λ a. nat_lt a i && is_over k tick a)) (store_at m.stores e).rate
  pub until : (b : ℕ) → until_at z b ≡ (if nat_lt b i && is_over k tick b then None else until_at k b)
  pub woken : (a b : ℕ) → a < i → b < 16 → is_over k tick a ≡ true → wakes_at wakes a b ≡ true → flag z.woken b ≡ true

pub record Soonest (i : ℕ) (until : List (Option ℕ)) (soonest : Option ℕ) : Type 0 where
  pub least : (a end : ℕ) → a < i → slice_index_or until a None ≡ Some end → IsSomeAnd soonest (λ tick. tick ≤ end)
  pub is : (tick : ℕ) → soonest ≡ Some tick → (a : ℕ) × (a < i) × (slice_index_or until a None ≡ Some tick)
