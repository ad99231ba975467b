-- The works that free and ring take, the rows made of them, and what free shows and does.
--     Workable ws               1 to 16 works of 1 to 4,095
--     OutsideAt ws a            a is the lowest actor whose work is outside the limits
--     WorksChecked ws r         what the check answers
--     works_of rs, lefts_of rs  the works of rows, and what is left of each
--     Fit r                     what a row keeps
--     fresh w                   a row with no work left
--     worn r, emptied r         a row after a tick of its own, and with no work left
--     RowsMade ws rs            the rows that are made for some works
--     freed rs                  what free shows
--     FreeTicks rs rs'          one tick of free
--     RowsLaid rs a rs'         a lay that was done, of free and ring
--     RowsCleared rs rs'        a clear
use Rattle.std.specs.Prelude.{◌≡◌, ℕ, ◌-◌, ◌<◌, ◌≤◌, ◌⊎◌, List, map, length, Ok, Err, Result, ◌≢◌, slice_index}
use Rattle.policy.specs.declared.rows.Row.{Row}
use Rattle.policy.specs.declared.fault.Fault.{Fault}
use Rattle.policy.specs.declared.fault.Fault.TheVariants.{Crowd, Limits, Promise}
use Rattle.policy.specs.Meaning.{View}

pub record Workable (ws : List ℕ) : Type 0 where
  pub some : 0 < length ws
  pub few : length ws ≤ 16
  pub least : (a : ℕ) → a < length ws → 0 < slice_index ws a
  pub most : (a : ℕ) → a < length ws → slice_index ws a ≤ 4095

pub record OutsideAt (ws : List ℕ) (a : ℕ) : Type 0 where
  pub some : 0 < length ws
  pub few : length ws ≤ 16
  pub present : a < length ws
  pub outside : 0 < slice_index ws a → 4095 < slice_index ws a
  pub least : (b : ℕ) → b < a → 0 < slice_index ws b
  pub most : (b : ℕ) → b < a → slice_index ws b ≤ 4095

-- how many there are is looked at first, and has place 0
abbrev pub WorksChecked : List ℕ → Result Unit Fault → Type 0
WorksChecked ws (Ok _) = Workable ws
WorksChecked ws (Err Crowd) = ⊥
WorksChecked ws (Err (Limits a)) = ((a ≡ 0) × (0 < length ws → 16 < length ws)) ⊎ OutsideAt ws a
WorksChecked ws (Err (Promise _)) = ⊥

abbrev pub works_of : List Row → List ℕ
works_of rs = map (λ r. r.work) rs

abbrev pub lefts_of : List Row → List ℕ
lefts_of rs = map (λ r. r.left) rs

pub record Fit (r : Row) : Type 0 where
  pub least : 0 < r.work
  pub most : r.work ≤ 4095
  pub under : r.left ≤ r.work

abbrev pub fresh : ℕ → Row
fresh w = record { work = w; left = 0 }

abbrev pub worn : Row → Row
worn r = record r { left = r.left - 1 }

abbrev pub emptied : Row → Row
emptied r = record r { left = 0 }

-- no actors where the works are refused
pub record RowsMade (ws : List ℕ) (rs : List Row) : Type 0 where
  pub number : Workable ws → length rs ≡ length ws
  pub works : Workable ws → (a : ℕ) → slice_index (works_of rs) a ≡ slice_index ws a
  pub refused : (Workable ws → ⊥) → length rs ≡ 0
  pub idle : (a : ℕ) → slice_index (lefts_of rs) a ≡ 0

abbrev pub freed : List Row → View
freed rs = record {
  number = length rs;
  work = λ a. slice_index (works_of rs) a;
  promise = λ a. slice_index (works_of rs) a;
  left = λ a. slice_index (lefts_of rs) a;
  due = λ a. slice_index (lefts_of rs) a;
}

-- every left falls by one
pub record FreeTicks (rs rs' : List Row) : Type 0 where
  pub number : length rs' ≡ length rs
  pub works : works_of rs' ≡ works_of rs
  pub served : (a : ℕ) → slice_index (lefts_of rs') a ≡ slice_index (lefts_of rs) a - 1

-- one actor is given its work
pub record RowsLaid (rs : List Row) (a : ℕ) (rs' : List Row) : Type 0 where
  pub number : length rs' ≡ length rs
  pub works : works_of rs' ≡ works_of rs
  pub present : a < length rs
  pub idle : slice_index (lefts_of rs) a ≡ 0
  pub given : slice_index (lefts_of rs') a ≡ slice_index (works_of rs) a
  pub others : (b : ℕ) → (b ≢ a) → slice_index (lefts_of rs') b ≡ slice_index (lefts_of rs) b

-- every left is 0
pub record RowsCleared (rs rs' : List Row) : Type 0 where
  pub number : length rs' ≡ length rs
  pub works : works_of rs' ≡ works_of rs
  pub none : (a : ℕ) → slice_index (lefts_of rs') a ≡ 0
