-- What rows keep, and with it the laws of free and ring. Assumes nothing.
use Rattle.std.proofs.Common.{◌≡◌, ℕ, ◌-◌, ◌<◌, ◌≤◌, Bool, true, List, length, get_or, sym, subst, ⊎_elim, arith}
use Rattle.std.specs.List.{All}
use Rattle.std.proofs.lemmas.List.{get_or_past, length-map}
use Rattle.std.proofs.lemmas.Bool.{cases_lt}
use Rattle.std.proofs.Math.ListN.{get_or-map}
use Rattle.policy.specs.declared.rows.Row.{Row}
use Rattle.policy.specs.declared.rows.Rows.{Rows}
use Rattle.policy.specs.Meaning.{Sound, Served}
use Rattle.policy.specs.Works.{works_of, lefts_of, Fit, freed}
use Rattle.policy.specs.Turns.{ringed, RingTicks}
use Rattle.policy.specs.Rounds.{Table, ringed_sound, ringed_ticks}

-- a work and its left are those of a row, or 0
by_row : (rs : List Row) → All Fit rs → (P : ℕ → ℕ → Type 0) → ((r : Row) → Fit r → P r.work r.left) → P 0 0 → (a : ℕ) → P (get_or (works_of rs) a 0) (get_or (lefts_of rs) a 0)
by_row rs fit P there past a =
    let none : Row = record { work = 0; left = 0 } in
    subst (λ (x : ℕ). P x (get_or (lefts_of rs) a 0)) (sym (get_or-map (λ (r : Row). r.work) rs a none))
    (subst (λ (x : ℕ). P (get_or rs a none).work x) (sym (get_or-map (λ (r : Row). r.left) rs a none))
    (⊎_elim
    (λ h. there (get_or rs a none) (fit a none h))
    (λ h. subst (λ (r : Row). P r.work r.left) (sym (get_or_past rs a none h)) past)
    (cases_lt a (length rs))))

module _ (rows : Rows) where
  pub most : (a : ℕ) → get_or (works_of rows.list.items) a 0 ≤ 4095
  most = by_row rows.list.items rows.fit (λ w l. w ≤ 4095) (λ r f. f.most) (omega arith)

  pub under : (a : ℕ) → get_or (lefts_of rows.list.items) a 0 ≤ get_or (works_of rows.list.items) a 0
  under = by_row rows.list.items rows.fit (λ w l. l ≤ w) (λ r f. f.under) (omega arith)

  pub past : (a : ℕ) → length rows.list.items ≤ a → get_or (works_of rows.list.items) a 0 ≡ 0
  past a h = get_or_past (works_of rows.list.items) a 0 (omega (arith, length-map rows.list.items (λ (r : Row). r.work)))

  pub free_sound : Sound (freed rows.list.items)
  free_sound = record {
    few = rows.few;
    absent = past;
    promise_limit = λ a. omega (arith, most a);
    work_promise = λ a. omega arith;
    left_work = under;
    left_due = λ a. omega arith;
    due_promise = under;
    due_zero = λ a z. z;
  }

  module _ (t : ℕ) (busy : Bool) (on : t ≤ length rows.list.items - 1) (going : busy ≡ true → 0 < get_or (lefts_of rows.list.items) t 0) where
    pub table : Table (length rows.list.items) (works_of rows.list.items) (lefts_of rows.list.items) t busy
    table = record { few = rows.few; most = most; past = past; under = under; on = λ h. omega arith; going = going }

    pub ring_sound : Sound (ringed (length rows.list.items) (works_of rows.list.items) (lefts_of rows.list.items) t busy)
    ring_sound = ringed_sound (length rows.list.items) (works_of rows.list.items) (lefts_of rows.list.items) t busy table

    pub ring_ticks : (rows' : Rows) (t' : ℕ) (busy' : Bool)
        → RingTicks (length rows.list.items) (works_of rows.list.items) (lefts_of rows.list.items) t busy (length rows'.list.items) (works_of rows'.list.items) (lefts_of rows'.list.items) t' busy'
        → Served (ringed (length rows.list.items) (works_of rows.list.items) (lefts_of rows.list.items) t busy) (ringed (length rows'.list.items) (works_of rows'.list.items) (lefts_of rows'.list.items) t' busy')
    ring_ticks rows' t' busy' =
        ringed_ticks (length rows.list.items) (works_of rows.list.items) (lefts_of rows.list.items) t busy table (length rows'.list.items) (works_of rows'.list.items) (lefts_of rows'.list.items) t' busy'
