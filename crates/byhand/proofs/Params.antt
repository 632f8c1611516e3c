-- The parameters of a function as a list, and how a walk that ends in what the contract's triple leaves is taken to the contract.
--     Param                                   a parameter's type, of one machine value, with its laws, and what a contract names of an argument: the argument itself, or of a slice its list
--     struct, enum, array, number, shared, lent    those that there are, shared being `&[R]` and lent `&mut [R]`
--     lft                                     the lifetime numbered j of n + 1
--     slice, mut_slice                        a slice's machine value, of a `&[R]` and of a `&mut [R]`
--     rows, locals_of, vals, valss               the types of a list of parameters; their locals; the machine values of arguments, in a row, and as a list for each
--     Curried, applied                        a function of what a contract names of the arguments, one by one, and its value at given arguments
--     Every, every_at                         a law that relates two such, for all arguments and at given ones
--     laws, meets_by                          a run meets a contract, from a walk at each choice of lifetimes, shares and arguments, with the machine values written out and of their types
-- Assumes `Logic`.
use Prim.Native.Nat.{ℕ, zero, suc}
use mathlib.Core.List.{List, [], ◌∷◌, map}
use lib.ListN.{length}
use seplogic.Ra.Ura.{Ura}
use mir.Syntax.{named, w64, Local, local, value_local}
use mir.Val.{Val, vint}
use base.Logic.{SProp, ent, sep, wand, via, comm∗, mono_l, wand_i, apply∗}
use base.Fml.{Lft}
use types.Logic.{Logic}
use contract.Lifetimes.{Lfts, Shares, AllOutlive}
use contract.Monad.{Fun}
use denote.RattleType.{RattleType, Denots, Valss, flat, mirs}
use denote.Laws.{Typed, Is, Ises, Tells, Spells, valss as spelled_out, Tellss, Lawful, Lawfuls, all_Typed}
use denote.Array.{Array, array_val, Array-Tells, Array-Lawful}
use denote.Builtin.{usize}
use denote.Enum.Declared as E
use denote.Enum.Enum.{Few}
use denote.Enum.Laws as EL
use denote.Memory.{lone}
use denote.Plain.{uint_Tells, uint_Lawful}
use denote.Ref.{Bor, MutBor}
use denote.Signature.{Signature, types_at}
use denote.Slice.{slice_val, ShrSlice, MutSlice, shr_slice_Tells, mut_slice_Tells, shr_slice_Lawful, mut_slice_Lawful}
use denote.Steps.{said}
use denote.Struct.Declared.{Declared, row as row_of}
use denote.Struct.Laws as LL
use denote.Triple.Entry.{Args, Vals, on_entry}
use denote.Triple.Spec.{Spec, Meets, triple_of}

-- a lifetime of several
abbrev pub lft : (n j : ℕ) → Lfts (suc n) → Lft
lft zero j κs = κs.0
lft (suc n) zero κs = κs.0
lft (suc n) (suc j) κs = lft n j κs.1

-- a parameter
pub record Param : Type 2 where
  pub row : RattleType
  pub val : row.Denot → Val
  pub tells : Tells row (Is row) (λ x. val x ∷ [])
  pub lawful : {M : Type 1} {𝓤 : Ura M} (𝓛 : Logic 𝓤) → Lawful 𝓛 row
  pub Named : Type 0
  pub names : row.Denot → Named

abbrev pub struct : (T : Declared) → LL.Laws T → Param
struct T L = record { row = row_of T; val = LL.val T L; tells = LL.tells T L; lawful = LL.lawful T L; Named = T.D; names = λ x. x }

abbrev pub enum : (T : E.Declared) (L : EL.Laws T) → Few (E.shape T) → Param
enum T L few = record { row = E.row T; val = EL.val T L; tells = EL.tells T L; lawful = λ 𝓛. EL.lawful T L 𝓛 few; Named = T.D; names = λ x. x }

abbrev pub array : Param → ℕ → Param
array p n = record {
  row = Array p.row n;
  val = λ xs. array_val (map p.val xs);
  tells = Array-Tells p.row (λ x. p.val x ∷ []) p.tells n;
  lawful = λ 𝓛. Array-Lawful 𝓛 p.row (p.lawful 𝓛) n;
  Named = List p.row.Denot;
  names = λ xs. xs;
}

abbrev pub number : Param
number = record { row = usize; val = vint w64; tells = uint_Tells w64; lawful = λ 𝓛. uint_Lawful 𝓛 w64; Named = ℕ; names = λ n. n }

abbrev pub slice : {X : Type 0} → Bor (List X) → Val
slice x = slice_val x.ref_ptr (length x.now)

abbrev pub mut_slice : {X : Type 0} → MutBor (List X) → Val
mut_slice x = slice_val x.ref_ptr (length x.now)

-- `&[R]` and `&mut [R]`, at the lifetime numbered j of n + 1
abbrev pub shared : (n j : ℕ) → Lfts (suc n) → RattleType → Param
shared n j κs R = record {
  row = ShrSlice (named j) (lft n j κs) R;
  val = slice;
  tells = shr_slice_Tells (named j) (lft n j κs) R;
  lawful = λ 𝓛. shr_slice_Lawful 𝓛 (named j) (lft n j κs) R;
  Named = List R.Denot;
  names = λ x. x.now;
}

abbrev pub lent : (n j : ℕ) → Lfts (suc n) → RattleType → Param
lent n j κs R = record {
  row = MutSlice (named j) (lft n j κs) R;
  val = mut_slice;
  tells = mut_slice_Tells (named j) (lft n j κs) R;
  lawful = λ 𝓛. mut_slice_Lawful 𝓛 (named j) (lft n j κs) R;
  Named = List R.Denot;
  names = λ x. x.now;
}

-- a list of parameters
abbrev pub rows : List Param → List RattleType
rows [] = []
rows (p ∷ ps) = p.row ∷ rows ps

abbrev pub locals_of : List Param → List Local
locals_of [] = []
locals_of (p ∷ ps) = local (lone p.row.mir) value_local ∷ locals_of ps

abbrev pub vals : (ps : List Param) → Denots (rows ps) → List Val
vals [] a = []
vals (p ∷ ps) a = p.val a.0 ∷ vals ps a.1

abbrev pub valss : (ps : List Param) → Denots (rows ps) → Valss (rows ps)
valss [] a = tt
valss (p ∷ ps) a = (p.val a.0 ∷ [], valss ps a.1)

abbrev pub spells : (ps : List Param) → Spells (rows ps)
spells [] = tt
spells (p ∷ ps) = ((λ x. p.val x ∷ []), spells ps)

abbrev pub tells : (ps : List Param) → Tellss (rows ps) (Ises (rows ps)) (spells ps)
tells [] = tt
tells (p ∷ ps) = (p.tells, tells ps)

abbrev pub Curried : List Param → Type 1 → Type 1
Curried [] X = X
Curried (p ∷ ps) X = p.Named → Curried ps X

abbrev pub applied : (ps : List Param) {X : Type 1} → Curried ps X → Denots (rows ps) → X
applied [] f a = f
applied (p ∷ ps) f a = applied ps (f (p.names a.0)) a.1

abbrev pub Every : (ps : List Param) {X Y : Type 1} → (X → Y → Type 0) → Curried ps X → Curried ps Y → Type 0
Every [] P f g = P f g
Every (p ∷ ps) P f g = (x : p.Named) → Every ps P (f x) (g x)

pub every_at : (ps : List Param) {X Y : Type 1} (P : X → Y → Type 0) (f : Curried ps X) (g : Curried ps Y) → Every ps P f g → (a : Denots (rows ps)) → P (applied ps f a) (applied ps g a)
every_at [] P f g h a = h
every_at (p ∷ ps) P f g h a = every_at ps P (f (p.names a.0)) (g (p.names a.0)) (h (p.names a.0)) a.1

-- from a walk to a contract
module _ {M : Type 1} {𝓤 : Ura M} (𝓛 : Logic 𝓤) where
  -- how each parameter's machine value is spelled, that its type tells it, and that it is of its MIR type
  abbrev Laws : List RattleType → Type 1
  Laws Rs = (sp : Spells Rs) × (Tellss Rs (Ises Rs) sp × Lawfuls 𝓛 Rs)

  abbrev lawfuls : (ps : List Param) → Lawfuls 𝓛 (rows ps)
  lawfuls [] = tt
  lawfuls (p ∷ ps) = (p.lawful 𝓛, lawfuls ps)

  abbrev pub laws : (ps : List Param) → Laws (rows ps)
  laws ps = (spells ps, (tells ps, lawfuls ps))

  module _ (S : Signature) (c : Spec 𝓤 S) (run : Fun 𝓤) (known : (κs : Lfts S.lifetimes) → Laws (types_at S.params κs)) where
    abbrev written : (κs : Lfts S.lifetimes) → Args S κs → Vals S κs
    written κs a = spelled_out (types_at S.params κs) (known κs).0 a

    pub meets_by : ((κs : Lfts S.lifetimes) (qs : Shares S.lifetimes) (bounds : AllOutlive S.lifetimes S.outlives κs) (a : Args S κs) (g : (c κs a).ghost) → Typed (mirs (types_at S.params κs)) (flat (types_at S.params κs) (written κs a))
        → ent 𝓤 (sep 𝓤 (on_entry 𝓛 S κs qs a (written κs a)) ((c κs a).requires g)) (run (flat (types_at S.params κs) (written κs a)) ((triple_of 𝓛 S c).post ((κs, qs, bounds, a, written κs a), g))))
        → Meets 𝓛 S run c
    meets_by k y =
        let κs : Lfts S.lifetimes = y.0.0 in
        let a : Args S κs = y.0.3 in
        let R : SProp 𝓤 = (c κs a).requires y.1 in
        let Q : Vals S κs → SProp 𝓤 = λ us. run (flat (types_at S.params κs) us) ((triple_of 𝓛 S c).post ((κs, y.0.1, y.0.2, a, us), y.1)) in
        via 𝓤 (sep 𝓤 R (wand 𝓤 R (Q y.0.4)))
        (via 𝓤 (sep 𝓤 (wand 𝓤 R (Q y.0.4)) R)
        (mono_l 𝓤 R (said 𝓛 S κs y.0.1 (known κs).0 (known κs).1.0 a (λ us. wand 𝓤 R (Q us)) y.0.4
        (λ are. wand_i 𝓤 _ R _ (k κs y.0.1 y.0.2 a y.1 (all_Typed 𝓛 (types_at S.params κs) (known κs).1.1 a (written κs a) are)))))
        (comm∗ 𝓤 (wand 𝓤 R (Q y.0.4)) R))
        (apply∗ 𝓤 R (Q y.0.4))
