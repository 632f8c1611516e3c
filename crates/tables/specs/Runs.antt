-- 01: "They stand in rising order of to mark (equal allowed), so the ties into one mark are one unbroken run of the table"
use Rattle.std.specs.Prelude.{ℕ, suc, ◌≤◌, ◌<◌, List, ◌≡◌, length, get_or}

-- what refusals 1 to 3 leave of the to column
pub record Rising (to : List ℕ) (ties marks : ℕ) : Type 0 where
  pub size : length to ≡ ties
  pub mark_in : (e : ℕ) → e < ties → get_or to e 0 < marks
  pub rises : (e : ℕ) → suc e < ties → get_or to e 0 ≤ get_or to (suc e) 0

-- the ties before `at` enter marks before v, the others do not
pub record Cut (to : List ℕ) (ties v at : ℕ) : Type 0 where
  pub within : at ≤ ties
  pub before : (e : ℕ) → e < at → get_or to e 0 < v
  pub after : (e : ℕ) → at ≤ e → e < ties → v ≤ get_or to e 0

-- the ties from `first` on, up to `end`, are those into v
pub record RunInto (to : List ℕ) (ties v first end : ℕ) : Type 0 where
  pub begins : Cut to ties v first
  pub ends : Cut to ties (suc v) end
