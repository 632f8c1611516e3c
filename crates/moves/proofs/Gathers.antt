-- A step for a walk by hand that calls `gather`: what every public call that takes `&[Move]` does first. The calls here need no walk.
--     Gather     `gather`'s contract
--     gathers    [κ's token; what the slice owns; …] at a call of `gather` goes on with [what the result owns; κ's token; what the slice owns; …], at a result that is what is gathered of the list, with its machine value's type
-- Assumes `Logic`, and that the callee meets its contract.
use mathlib.Core.Path.{◌≡◌}
use mathlib.Core.List.{List, [], ◌∷◌}
use seplogic.Ra.Ura.{Ura}
use lib.Dec.{T as Holds}
use mir.Syntax.{Callee, Body, Place, Opd as Operand, named, seq, call}
use mir.Val.{Val, WT, has_ty}
use base.Logic.{SProp, ent, sep, snd∗, ex_e, id⊢}
use base.Fml.{Lft, Share, ftrue, flft}
use prog.Memory.{Memory}
use prog.Routine.{Routine}
use prog.Wp.{Env, Calls, Loops}
use types.Logic.{Logic, sem}
use contract.Monad.{Fun, fact}
use types.Kit.{Post, Item, ‵, raw, ◌⊛◌, ⋆, some, later, runs, lands, Seq, ◌$◌, ◌∵◌, !, qed, move, drop, use1, use2, split, join, pick, fjoin, frame, await, done}
use types.Run.{Opds}
use sound.WpLaws.{FmC}
use denote.RattleType.{owns}
use denote.Laws.{Is, shows}
use denote.Ref.{Bor}
use denote.Slice.{ShrSlice, shr_slice_copy}
use denote.Steps.{peeks, heard, nothing}
use denote.Struct.Laws as LL
use denote.Triple.Statement.{Contract, Triple}
use denote.Triple.Call.{calls_at}
use denote.Triple.Spec.{triple_of}
use denote.Triple.Clauses.{ensured, lasts}
use Rattle.walk.specs.declared.Move.{Move}
use Rattle.walk.specs.contracts.Move as T
use Rattle.walk.proofs.Move.TheLaws as T'
use Rattle.moves.specs.Gathering.{gathered}
use Rattle.tables.specs.declared.gathered.Gathered.{Gathered}
use Rattle.byhand.proofs.Params.{slice}
use Rattle.tables.specs.contracts.gathered.Gathered as G
use Rattle.tables.proofs.gathered.Gathered.TheLaws as G'
use Rattle.moves.specs.contracts.gather as gather

module _ {M : Type 1} {𝓤 : Ura M} (𝓛 : Logic 𝓤) (mem : Memory → SProp 𝓤) (run : Routine → Fun 𝓤) where
  open 𝓛 use {H}

  abbrev pub Gather : Contract 𝓤
  Gather = triple_of 𝓛 gather.signature (gather.spec 𝓛 mem run)

  module _ (κ : Lft) (q : Share) (s : Bor (List Move)) where
    abbrev to : Gather.Ghost
    to = (((κ, tt), (q, tt), tt, (s, tt), (slice s ∷ [], tt)), tt)

    asked : ent 𝓤 (⋆ 𝓛 (‵ (flft κ q) ∷ ‵ ((ShrSlice (named 0) κ T.the_row).own_val s (slice s ∷ [])) ∷ [])) (sep 𝓤 (Gather.pre to) (sem 𝓛 ((ShrSlice (named 0) κ T.the_row).own_val s (slice s ∷ []))))
    asked =
        qed 𝓛 (‵ (flft κ q) ∷ ‵ ((ShrSlice (named 0) κ T.the_row).own_val s (slice s ∷ [])) ∷ []) ∵
        move ! (1 ∷ []) $ use1 𝓛 (‵ ((ShrSlice (named 0) κ T.the_row).own_val s (slice s ∷ [])) ⊛ ‵ ((ShrSlice (named 0) κ T.the_row).own_val s (slice s ∷ []))) ((shr_slice_copy 𝓛 (named 0) κ T.the_row (T'.the_row_laws).shr_laws).twice s (slice s ∷ [])) $ split ! $
        nothing ! $ move ! (1 ∷ 0 ∷ []) $ fjoin ! $ nothing ! $ move ! (3 ∷ 0 ∷ []) $ join ! $
        use2 𝓛 (raw (Gather.pre to)) (qed 𝓛 ((‵ (flft κ q) ⊛ ‵ ftrue) ∷ ‵ (owns (ShrSlice (named 0) κ T.the_row ∷ []) (s, tt) (slice s ∷ [], tt)) ∷ []) ∵ join ! $ frame ! $ done !) $ frame ! $ done !

    said : (r : Gathered) → ent 𝓤 (ensured 𝓛 gather.ended (gather.clauses 𝓛 mem run) (κ, tt) (s, tt) tt r) (fact 𝓤 (r ≡ gathered s.now))
    said r = ex_e 𝓤 _ (λ ws. snd∗ 𝓤 (sem 𝓛 (lasts gather.ended (κ, tt) (s, tt) ws)) (fact 𝓤 (r ≡ gathered s.now)))

    pub gathers : {K : Type 0} {Γ : List (Item 𝓤)} {E : Env 𝓤 H} {C : Calls 𝓤 H} {Λ : Loops 𝓤 H} {p : Post 𝓤 H} {f : Callee} {x : Operand} {d : Place} {rest : Body} → K → FmC 𝓤 H 𝓛.laws C → Triple 𝓤 (C f) Gather
        → Opds K 𝓛 (raw (Gather.pre to) ∷ ‵ ((ShrSlice (named 0) κ T.the_row).own_val s (slice s ∷ [])) ∷ Γ) E (x ∷ []) (slice s ∷ [])
        → ((r : Gathered) (u : Val) → r ≡ gathered s.now → Holds (has_ty G'.mir u) × WT u → Seq K 𝓛 (‵ ((G.the_row).own_val r (u ∷ [])) ∷ ‵ (flft κ q) ∷ ‵ ((ShrSlice (named 0) κ T.the_row).own_val s (slice s ∷ [])) ∷ Γ) (lands C Λ E d u rest p))
        → Seq K 𝓛 (‵ (flft κ q) ∷ ‵ ((ShrSlice (named 0) κ T.the_row).own_val s (slice s ∷ [])) ∷ Γ) (runs C Λ E (seq (call f (x ∷ []) d) rest) p)
    gathers t fm known os k =
        use2 𝓛 (raw (Gather.pre to) ⊛ ‵ ((ShrSlice (named 0) κ T.the_row).own_val s (slice s ∷ []))) asked $ split t $
        calls_at t fm Gather known to os (λ u.
        use1 𝓛 (later (some (λ (r : Gathered). ((‵ (flft κ q) ⊛ ‵ ftrue) ⊛ ‵ ((G.the_row).own_val r (u ∷ []))) ⊛ raw (ensured 𝓛 gather.ended (gather.clauses 𝓛 mem run) (κ, tt) (s, tt) tt r)))) (id⊢ 𝓤 _) $ await t tt $ pick t (λ r.
        split t $ move t (1 ∷ []) $ use1 𝓛 (raw (fact 𝓤 (r ≡ gathered s.now))) (said r) $ heard t (r ≡ gathered s.now) (λ e. split t $ split t $ move t (1 ∷ []) $ drop t $ move t (1 ∷ 0 ∷ []) $
        peeks t G.the_row (Is G.the_row) (shows 𝓛 G.the_row) r (u ∷ []) (λ is. k r u e ((LL.lawful G.the_type G'.the_laws 𝓛).typed r _ is).0))))
