-- What a ring of n actors shows and does, t being the actor whose turn goes on (busy) or ended last.
--     total ws k             the works of the first k actors together
--     waiting n left t k     the first of the k actors after t, going round, that has work left
--     next n left t busy     who is served next
--     works_to ws n t b k    the works after t's, going round to and including b's, k at most
--     round ws n t b         the same in one whole round; of t itself, all of them
--     owed .. b              the due of actor b
--     ringed ..              what the ring shows
--     RingServes .. x ..     a tick of x's turn
--     RingRests .. ..        a tick when nobody has work left
--     RingMoves o .. ..      a tick of the turn of o, if there is one
--     RingTicks .. ..        one tick
use Rattle.std.specs.Prelude.{◌≡◌, ℕ, zero, suc, ◌+◌, ◌-◌, Bool, cond, List, Some, None, Option, ◌==◌, ◌≢◌, nat_lt, slice_index, slice_index_or}
use Rattle.policy.specs.Meaning.{View}
use Rattle.policy.specs.Round.{after}

abbrev pub total : List ℕ → ℕ → ℕ
total ws zero = 0
total ws (suc k) = total ws k + slice_index ws k

abbrev pub waiting : ℕ → List ℕ → ℕ → ℕ → Option ℕ
waiting n left t zero = None
waiting n left t (suc k) = cond (nat_lt 0 (slice_index left (after n t))) (Some (after n t)) (waiting n left (after n t) k)

-- the turn that goes on, or the next in a round that ends with t itself
abbrev pub next : ℕ → List ℕ → ℕ → Bool → Option ℕ
next n left t busy = cond busy (Some t) (waiting n left t n)

abbrev pub works_to : List ℕ → ℕ → ℕ → ℕ → ℕ → ℕ
works_to ws n t b zero = 0
works_to ws n t b (suc k) = slice_index ws (after n t) + cond (after n t == b) 0 (works_to ws n (after n t) b k)

abbrev pub round : List ℕ → ℕ → ℕ → ℕ → ℕ
round ws n t b = works_to ws n t b n

-- in a turn its left comes first; between turns there are the works alone
abbrev pub owed : ℕ → List ℕ → List ℕ → ℕ → Bool → ℕ → ℕ
owed n ws left t busy b =
    cond (slice_index left b == 0) 0
    (cond busy (cond (b == t) (slice_index left b) (slice_index left t + round ws n t b)) (round ws n t b))

abbrev pub ringed : ℕ → List ℕ → List ℕ → ℕ → Bool → View
ringed n ws left t busy = record {
  number = n;
  work = λ a. slice_index ws a;
  promise = λ a. cond (nat_lt a n) (total ws n) 0;
  left = λ a. slice_index left a;
  due = owed n ws left t busy;
}

-- its left falls by one, and its turn goes on if any is left
pub record RingServes (left : List ℕ) (x : ℕ) (left' : List ℕ) (t' : ℕ) (busy' : Bool) : Type 0 where
  pub served : slice_index_or left' x 0 ≡ slice_index left x - 1
  pub others : (b : ℕ) → (b ≢ x) → slice_index left' b ≡ slice_index left b
  pub turn : t' ≡ x
  pub busy : busy' ≡ nat_lt 0 (slice_index left' x)

pub record RingRests (left : List ℕ) (t : ℕ) (busy : Bool) (left' : List ℕ) (t' : ℕ) (busy' : Bool) : Type 0 where
  pub lefts : left' ≡ left
  pub turn : t' ≡ t
  pub same : busy' ≡ busy

abbrev pub RingMoves : Option ℕ → List ℕ → ℕ → Bool → List ℕ → ℕ → Bool → Type 0
RingMoves (Some x) left t busy left' t' busy' = RingServes left x left' t' busy'
RingMoves None left t busy left' t' busy' = RingRests left t busy left' t' busy'

pub record RingTicks (n : ℕ) (ws left : List ℕ) (t : ℕ) (busy : Bool) (n' : ℕ) (ws' left' : List ℕ) (t' : ℕ) (busy' : Bool) : Type 0 where
  pub number : n' ≡ n
  pub works : ws' ≡ ws
  pub moves : RingMoves (next n left t busy) left t busy left' t' busy'
