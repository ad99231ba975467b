-- What a policy of one actor shows and does that serves every other tick, first at the present one if it is awake.
use Rattle.std.specs.Prelude.{◌≡◌, ℕ, ◌-◌, ◌*◌, Bool, cond, not, ◌==◌}
use Rattle.policy.specs.Meaning.{View}

-- of the one actor
abbrev pub only : ℕ → ℕ → ℕ
only x a = cond (a == 0) x 0

abbrev pub blinked : ℕ → ℕ → Bool → View
blinked work left awake = record {
  number = 1;
  work = only work;
  promise = only (2 * work);
  left = only left;
  due = only (2 * left - cond awake 1 0);
}

pub record BlinkTicks (work left : ℕ) (awake : Bool) (work' left' : ℕ) (awake' : Bool) : Type 0 where
  pub same : work' ≡ work
  pub served : left' ≡ left - cond awake 1 0
  pub turned : awake' ≡ not awake

pub record BlinkLays (work left : ℕ) (awake : Bool) (a work' left' : ℕ) (awake' : Bool) : Type 0 where
  pub same : work' ≡ work
  pub kept : awake' ≡ awake
  pub present : a ≡ 0
  pub idle : left ≡ 0
  pub given : left' ≡ work

pub record BlinkClears (work : ℕ) (awake : Bool) (work' left' : ℕ) (awake' : Bool) : Type 0 where
  pub same : work' ≡ work
  pub kept : awake' ≡ awake
  pub none : left' ≡ 0
