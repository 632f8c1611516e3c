-- A call, in a walk, of a function whose contract ensures one fact.
--     datum             a field's type as a parameter
--     owned_all         plain data is owned for nothing
--     Unsaid, unsaid    what a contract says at exit of parameters that are only read: nothing
--     Left, Leaves      what a function leaves: the tokens P, its result r at the machine value u, what is said of its parameters at exit, and φ of both
--     Gives             it does so at the arguments a, where a caller needs N beside P and what a owns
--     calls_for         a call of such a function, whose result, y, goes to local d
--     calls_plain       the same where the arguments are plain data and the contract says r ≡ x. Where the operands are read, the locals are entry 1 of the context
-- Assumes `Logic`.
use mathlib.Core.Path.{◌≡◌, refl, ◌∙◌, subst}
use Prim.Native.Nat.{ℕ}
use mathlib.Core.List.{List, [], ◌∷◌}
use lib.ListN.{get_or, set}
use seplogic.Ra.Ura.{Ura}
use mir.Syntax.{Callee, Ty, Body, Opd as Operand, place, seq, call}
use mir.Val.{Val}
use base.Logic.{SProp, ent, sep, ex, emp, id⊢, via}
use base.Fml.{Fml, ftrue, fsep}
use prog.Wp.{Env, spot_of, Calls, Loops}
use types.Logic.{Logic, sem}
use contract.Monad.{fact}
use types.Kit.{Item, ‵, raw, ◌⊛◌, some, later, Post, Goal, runs, lands, Seq, Step, ◌$◌, ◌∵◌, !, qed, move, drop, use0, use1, split, pick, rewrite, regoal, fjoin, await, done}
use types.Run.{Opds, stop, from, land}
use sound.WpLaws.{FmC}
use denote.RattleType.{RattleType, Denots, owns}
use denote.Shadow.{shadow, makes_shadow}
use denote.Laws.{Typed, Is, shows}
use denote.Steps.{only, peeks, heard, nothing}
use denote.Struct.Field.{Field}
use denote.Struct.Laws as LL
use denote.Struct.Struct.{Plains, pures}
use denote.Triple.Call.{calls_from}
use Rattle.byhand.proofs.Locals.{Cell, empty, full, away, Locals, fills}
use Rattle.byhand.proofs.Params.{Param, rows, vals, valss}

abbrev pub datum : (F : Field) → LL.FLaws F → Param
datum F L = record { row = F.row; val = L.val; tells = L.tells; lawful = L.lawful; Named = F.row.Denot; names = λ x. x }

abbrev pub Unsaid : List Param → Type 0
Unsaid [] = Unit {0}
Unsaid (p ∷ ps) = Unit {0} × Unsaid ps

abbrev pub unsaid : (ps : List Param) → Unsaid ps → Fml
unsaid [] zs = ftrue
unsaid (p ∷ ps) zs = fsep ftrue (unsaid ps zs.1)

module _ {M : Type 1} {𝓤 : Ura M} (𝓛 : Logic 𝓤) where
  open 𝓛 use {H}

  module _ (P : SProp 𝓤) (R : RattleType) {Lasts : Type 0} (lasts : Lasts → Fml) (φ : R.Denot → Lasts → Type 0) (u : Val) where
    abbrev pub Left : R.Denot → SProp 𝓤
    Left r = sep 𝓤 (sep 𝓤 P (sem 𝓛 (R.own_val r (u ∷ [])))) (ex 𝓤 (λ (zs : Lasts). sep 𝓤 (sem 𝓛 (lasts zs)) (fact 𝓤 (φ r zs))))

    abbrev pub Leaves : SProp 𝓤
    Leaves = H.⇛ (ex 𝓤 Left)

  pub record Gives (C : Calls 𝓤 H) (f : Callee) (P : Fml) (N : SProp 𝓤) (ps : List Param) (a : Denots (rows ps)) (R : RattleType) {Lasts : Type 0} (lasts : Lasts → Fml) (φ : R.Denot → Lasts → Type 0) : Type 1 where
    pub meets : ent 𝓤 (sep 𝓤 (sep 𝓤 (sem 𝓛 P) (sem 𝓛 (owns (rows ps) a (valss ps a)))) N) (C f (vals ps a) (Leaves (sem 𝓛 P) R lasts φ))

pub owned_all : {M : Type 1} {𝓤 : Ura M} {𝓛 : Logic 𝓤} {K : Type 0} {Γ : List (Item 𝓤)} {G : Goal 𝓤 𝓛.H} → K → (ps : List Param) → Plains (rows ps) → (a : Denots (rows ps)) → shadow (owns (rows ps) a (valss ps a)) → Step K 𝓛 (‵ (owns (rows ps) a (valss ps a)) ∷ Γ) G Γ G
owned_all {𝓤 = 𝓤} {𝓛 = 𝓛} t ps pl a are = use0 𝓛 (‵ (owns (rows ps) a (valss ps a))) (makes_shadow 𝓛 (owns (rows ps) a (valss ps a)) (pures (rows ps) pl a (valss ps a)) are)

module _ {M : Type 1} {𝓤 : Ura M} {𝓛 : Logic 𝓤} {K : Type 0} {Γ : List (Item 𝓤)} {E : Env 𝓤 𝓛.H} {us : List Cell} {C : Calls 𝓤 𝓛.H} {Λ : Loops 𝓤 𝓛.H} {q : Post 𝓤 𝓛.H} {f : Callee} {xs : List Operand} {rest : Body} {ps : List Param} {a : Denots (rows ps)} where
  open 𝓛 use {H}

  pub calls_for : K → FmC 𝓤 H 𝓛.laws C → (p : Param) {P : Fml} {N : SProp 𝓤} {Lasts : Type 0} {lasts : Lasts → Fml} {φ : p.row.Denot → Lasts → Type 0} → Gives 𝓛 C f P N ps a p.row lasts φ → ent 𝓤 (emp 𝓤) N → {y : p.row.Denot} → ((r : p.row.Denot) (zs : Lasts) → φ r zs → r ≡ y)
      → (d : ℕ) → get_or us d away ≡ empty → p.row.mir ≡ (spot_of 𝓤 H E d).0 ∷ [] → Opds K 𝓛 (‵ (fsep P (owns (rows ps) a (valss ps a))) ∷ ‵ (Locals E us) ∷ Γ) E xs (vals ps a)
      → ((r : p.row.Denot) (zs : Lasts) → φ r zs → Is p.row y (p.val y ∷ []) → Seq K 𝓛 (‵ (Locals E (set us d (full (p.val y)))) ∷ ‵ (p.row.own_val y (p.val y ∷ [])) ∷ ‵ P ∷ ‵ (lasts zs) ∷ Γ) (runs C Λ E rest q))
      → Seq K 𝓛 (‵ (fsep P (owns (rows ps) a (valss ps a))) ∷ ‵ (Locals E us) ∷ Γ) (runs C Λ E (seq (call f xs (place d [])) rest) q)
  calls_for t fm p {P} {N} {Lasts} {lasts} {φ} known needed {y} same d e τ os k =
      calls_from t fm (‵ (fsep P (owns (rows ps) a (valss ps a)))) (vals ps a) (Leaves 𝓛 (sem 𝓛 P) p.row lasts φ)
      (via 𝓤 _ (qed 𝓛 (‵ (fsep P (owns (rows ps) a (valss ps a))) ∷ []) ∵ use0 𝓛 (raw N) needed $ move ! (1 ∷ 0 ∷ []) $ done !) known.meets) os (λ u.
      use1 𝓛 (later (some (λ (r : p.row.Denot). (‵ P ⊛ ‵ (p.row.own_val r (u ∷ []))) ⊛ some (λ (zs : Lasts). ‵ (lasts zs) ⊛ raw (fact 𝓤 (φ r zs)))))) (id⊢ 𝓤 _) $ await t tt $ pick t (λ r. split t $ split t $ move t (2 ∷ []) $
      pick t (λ zs. split t $ move t (1 ∷ []) $ heard t (φ r zs) (λ h. move t (2 ∷ []) $ rewrite t 0 (λ (z : p.row.Denot). ‵ (p.row.own_val z (u ∷ []))) (same r zs h) refl $
      -- [what the result owns; what is said of the parameters; the tokens; the locals]
      peeks t p.row (Is p.row) (shows 𝓛 p.row) y (u ∷ []) (λ is. let told = p.tells y (u ∷ []) is in let is' = subst (Is p.row y) told is in
      rewrite t 0 (λ (vs : List Val). ‵ (p.row.own_val y vs)) told refl $ regoal t (λ (vs : List Val). lands C Λ E (place d []) (only vs) rest q) told refl $
      land t (from t (stop t)) (fills t 3 d refl e (subst (λ (τs : List Ty). Typed τs (p.val y ∷ [])) τ ((p.lawful 𝓛).typed y _ is')).0) $ move t (3 ∷ 0 ∷ 2 ∷ []) $ k r zs h is')))))

  pub calls_plain : K → FmC 𝓤 H 𝓛.laws C → (p : Param) {x y : p.row.Denot} → Gives 𝓛 C f ftrue (emp 𝓤) ps a p.row (unsaid ps) (λ r _. r ≡ x) → x ≡ y → Plains (rows ps) → shadow (owns (rows ps) a (valss ps a))
      → (d : ℕ) → get_or us d away ≡ empty → p.row.mir ≡ (spot_of 𝓤 H E d).0 ∷ [] → Opds K 𝓛 (‵ (fsep ftrue (owns (rows ps) a (valss ps a))) ∷ ‵ (Locals E us) ∷ Γ) E xs (vals ps a)
      → (Is p.row y (p.val y ∷ []) → Seq K 𝓛 (‵ (Locals E (set us d (full (p.val y)))) ∷ ‵ (p.row.own_val y (p.val y ∷ [])) ∷ Γ) (runs C Λ E rest q)) → Seq K 𝓛 (‵ (Locals E us) ∷ Γ) (runs C Λ E (seq (call f xs (place d [])) rest) q)
  calls_plain t fm p known x-is pl are d e τ os k =
      owned_all t ps pl a are $ nothing t $ fjoin t $ calls_for t fm p known (id⊢ 𝓤 (emp 𝓤)) (λ r zs e. e ∙ x-is) d e τ os (λ r zs _ is. move t (2 ∷ 3 ∷ []) $ drop t $ drop t $ k is)
