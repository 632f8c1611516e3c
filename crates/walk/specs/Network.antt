-- Networks, as they are lent. (000, definition 3)
use Rattle.std.specs.Prelude.{ℕ, List, length, get_or}

-- 01: "A network has V marks (0 to V-1), K kinds (0 to K-1) and E ties (0 to E-1). A tie has a from mark, a to mark and a set of
-- kinds." "Ties are lent as three columns of equal length"
pub record Network : Type 0 where
  pub marks : ℕ
  pub kinds : ℕ
  pub froms : List ℕ
  pub tos : List ℕ
  pub sets : List ℕ

module _ (N : Network) where
  -- 01: "E is the length of the from column"
  abbrev pub ties : ℕ
  ties = length N.froms

  -- the from mark, the to mark and the kinds of tie e (000: SRC, TGT, LBL)
  abbrev pub from_of : ℕ → ℕ
  from_of e = get_or N.froms e 0

  abbrev pub to_of : ℕ → ℕ
  to_of e = get_or N.tos e 0

  abbrev pub kinds_of : ℕ → ℕ
  kinds_of e = get_or N.sets e 0
