-- The undo stack, and what stands for it.
use Rattle.std.proofs.Common.{◌≡◌, ℕ, List, [], ◌∷◌, ◌++◌, length, reverse, Option, Some, None, Result, Ok, Err, refl, sym, ap, ◌∙◌, subst}
use Rattle.std.specs.Prelude.{All, option_map, option_and_then}
use Rattle.std.proofs.lemmas.List.{reverse-append, reverse-reverse}
use Rattle.std.proofs.lemmas.List.Elements.{All-nil, All-cons, All-head, All-tail}
use Rattle.meson_splice.specs.declared.change.Change.{Change}
use Rattle.meson_splice.specs.declared.fault.SpliceFault.TheVariants.{NothingToRedo, NothingToUndo}
use Rattle.meson_splice.specs.declared.file_set.File.{File}
use Rattle.meson_splice.specs.declared.history.History.{History}
use Rattle.meson_splice.specs.declared.splice.Splice.{Splice}
use Rattle.meson_splice.specs.Patch.{patched_all, inverses_of, then_ok}
use Rattle.meson_splice.specs.Past.{undone_from, redone_from}
use Rattle.meson_splice.proofs.Inverses.{inverses-restore, inverses_of-inverses_of}
use Rattle.meson_script.specs.Stack.{KeptSet, KeptLoads, kept_set, Stack, Stands, Loads, ran, ran_all, back, forth, taken_back, undos, done_again, on_ok, earlier, later}
use Rattle.meson_script.specs.Laws.{BeginsAStack, RunsThenUndosRestore, RunIsAStep, UndoIsAStep, NothingIsUndone, RedoIsAStep, NothingIsRedone}
use Rattle.meson_script.proofs.Loading.{project-loads}

-- the runs undone: the past and the present are those before
returned : (s : Stack) (sets : List KeptSet) → (t : Stack) × (undos (length sets) (ran_all s sets) ≡ Some t) × (t.past ≡ s.past) × (t.present ≡ s.present)
returned s [] = (s, refl, refl, refl)
returned s (new ∷ more) =
    let inner = returned (ran s new.title new.files) more in
    let t = inner.0 in
    (record { past = s.past; present = s.present; future = kept_set t.present new.title ∷ t.future }, ap (option_and_then taken_back) inner.1 ∙ ap (λ p. back p t.present t.future) inner.2, refl, refl)

pub runs-then-undos-restore : RunsThenUndosRestore
runs-then-undos-restore s sets =
    let r = returned s sets in
    ap (option_map (λ t. t.present)) r.1 ∙ ap (λ p. Some p) r.3

pub begins-a-stack : BeginsAStack
begins-a-stack p h = record { present = refl; past = refl; future = refl; loads = project-loads p h; past_loads = All-nil KeptLoads; future_loads = All-nil KeptLoads }

pub run-is-a-step : RunIsAStep
run-is-a-step h files after s c st done loads =
    record {
      present = refl;
      past = ap (λ cs. earlier cs after) (reverse-append h.past (c ∷ [])) ∙ ap (λ r. on_ok r (λ hs. option_map (λ ps. kept_set hs c.title ∷ ps) (earlier (reverse h.past) hs))) (inverses-restore files after c.splices done) ∙ ap (option_map (λ ps. kept_set files c.title ∷ ps)) st.past ∙ ap (λ p. Some (kept_set p c.title ∷ s.past)) (sym st.present);
      future = refl;
      loads = loads;
      past_loads = All-cons KeptLoads (kept_set s.present c.title) s.past (subst Loads (sym st.present) st.loads) st.past_loads;
      future_loads = All-nil KeptLoads;
    }

-- ---- undo and redo

-- a first step that is defined, and the sets after it
met : {E : Type 0} (r : Result (List File) E) (gs : List File) (title : List ℕ) (f : List File → Option (List KeptSet)) (o : Option (List KeptSet)) (all : List KeptSet) → r ≡ Ok gs → f gs ≡ o → option_map (λ ps. kept_set gs title ∷ ps) o ≡ Some all
    → (hs : List File) × (ps : List KeptSet) × (r ≡ Ok hs) × (f hs ≡ Some ps) × (all ≡ kept_set hs title ∷ ps)
met r gs title f None all ok is h = absurd (let bad : ⊥ = cc in bad)
met r gs title f (Some ps) all ok is h = (gs, ps, ok, is, cc)

first_of : {E : Type 0} (r : Result (List File) E) (title : List ℕ) (f : List File → Option (List KeptSet)) (all : List KeptSet) → on_ok r (λ gs. option_map (λ ps. kept_set gs title ∷ ps) (f gs)) ≡ Some all
    → (hs : List File) × (ps : List KeptSet) × (r ≡ Ok hs) × (f hs ≡ Some ps) × (all ≡ kept_set hs title ∷ ps)
first_of (Ok gs) title f all h = met (Ok gs) gs title f (f gs) all refl refl h
first_of (Err e) title f all h = absurd (let bad : ⊥ = cc in bad)

inverses-applied : (fs gs : List File) (ss : List Splice) → patched_all fs (inverses_of ss) ≡ Ok gs → patched_all gs ss ≡ Ok fs
inverses-applied fs gs ss h = ap (patched_all gs) (sym (inverses_of-inverses_of ss)) ∙ inverses-restore fs gs (inverses_of ss) h

-- what is known of a stack on the way back: its present, the changes before and behind it
undo_from : (older : List Change) (future : List Change) (fs : List File) (s t : Stack) → s.present ≡ fs → earlier older fs ≡ Some s.past → later (reverse future) fs ≡ Some s.future → Loads fs → All KeptLoads s.past → All KeptLoads s.future → taken_back s ≡ Some t
    → (k : History) × (undone_from older future fs ≡ Ok (k, t.present)) × Stands k t.present t
undo_from [] future fs s t here past next loads before behind is =
    let none : s.past ≡ [] = cc in
    let other : None ≡ Some t = ap (λ p. back p s.present s.future) (sym none) ∙ is in
    absurd (let bad : ⊥ = cc in bad)
undo_from (c ∷ older) future fs s t here past next loads before behind is =
    let o = first_of (patched_all fs (inverses_of c.splices)) c.title (earlier older) s.past past in
    let gs = o.0 in
    let ps = o.1 in
    let gives : back (kept_set gs c.title ∷ ps) s.present s.future ≡ Some t = ap (λ p. back p s.present s.future) (sym o.4) ∙ is in
    let same : t ≡ record { past = ps; present = gs; future = kept_set s.present c.title ∷ s.future } = cc in
    let again : patched_all gs c.splices ≡ Ok fs = inverses-applied fs gs c.splices o.2 in
    let k : History = record { past = reverse older; future = future ++ c ∷ [] } in
    let sets : All KeptLoads (kept_set gs c.title ∷ ps) = subst (All KeptLoads) o.4 before in
    rw same (
      k,
      ap (λ r. then_ok r (λ hs. Ok (k, hs))) o.2,
      record {
        present = refl;
        past = ap (λ cs. earlier cs gs) (reverse-reverse older) ∙ o.3;
        future = ap (λ cs. later cs gs) (reverse-append future (c ∷ [])) ∙ ap (λ r. on_ok r (λ hs. option_map (λ ns. kept_set hs c.title ∷ ns) (later (reverse future) hs))) again ∙ ap (option_map (λ ns. kept_set fs c.title ∷ ns)) next ∙ ap (λ p. Some (kept_set p c.title ∷ s.future)) (sym here);
        loads = All-head KeptLoads (kept_set gs c.title) ps sets;
        past_loads = All-tail KeptLoads (kept_set gs c.title) ps sets;
        future_loads = All-cons KeptLoads (kept_set s.present c.title) s.future (subst Loads (sym here) loads) behind;
      },
    )

pub undo-is-a-step : UndoIsAStep
undo-is-a-step h fs s t st is = undo_from (reverse h.past) h.future fs s t st.present st.past st.future st.loads st.past_loads st.future_loads is

redo_from : (newer : List Change) (past : List Change) (fs : List File) (s t : Stack) → s.present ≡ fs → earlier (reverse past) fs ≡ Some s.past → later newer fs ≡ Some s.future → Loads fs → All KeptLoads s.past → All KeptLoads s.future → done_again s ≡ Some t
    → (k : History) × (redone_from newer past fs ≡ Ok (k, t.present)) × Stands k t.present t
redo_from [] past fs s t here before_is next loads before behind is =
    let none : s.future ≡ [] = cc in
    let other : None ≡ Some t = ap (λ n. forth s.past n s.present) (sym none) ∙ is in
    absurd (let bad : ⊥ = cc in bad)
redo_from (c ∷ newer) past fs s t here before_is next loads before behind is =
    let o = first_of (patched_all fs c.splices) c.title (later newer) s.future next in
    let gs = o.0 in
    let ns = o.1 in
    let gives : forth s.past (kept_set gs c.title ∷ ns) s.present ≡ Some t = ap (λ n. forth s.past n s.present) (sym o.4) ∙ is in
    let same : t ≡ record { past = kept_set s.present c.title ∷ s.past; present = gs; future = ns } = cc in
    let again : patched_all gs (inverses_of c.splices) ≡ Ok fs = inverses-restore fs gs c.splices o.2 in
    let k : History = record { past = past ++ c ∷ []; future = reverse newer } in
    let sets : All KeptLoads (kept_set gs c.title ∷ ns) = subst (All KeptLoads) o.4 behind in
    rw same (
      k,
      ap (λ r. then_ok r (λ hs. Ok (k, hs))) o.2,
      record {
        present = refl;
        past = ap (λ cs. earlier cs gs) (reverse-append past (c ∷ [])) ∙ ap (λ r. on_ok r (λ hs. option_map (λ ps. kept_set hs c.title ∷ ps) (earlier (reverse past) hs))) again ∙ ap (option_map (λ ps. kept_set fs c.title ∷ ps)) before_is ∙ ap (λ p. Some (kept_set p c.title ∷ s.past)) (sym here);
        future = ap (λ cs. later cs gs) (reverse-reverse newer) ∙ o.3;
        loads = All-head KeptLoads (kept_set gs c.title) ns sets;
        past_loads = All-cons KeptLoads (kept_set s.present c.title) s.past (subst Loads (sym here) loads) before;
        future_loads = All-tail KeptLoads (kept_set gs c.title) ns sets;
      },
    )

pub redo-is-a-step : RedoIsAStep
redo-is-a-step h fs s t st is = redo_from (reverse h.future) h.past fs s t st.present st.past st.future st.loads st.past_loads st.future_loads is

none_undone : (older : List Change) (future : List Change) (fs : List File) (s : Stack) → earlier older fs ≡ Some s.past → taken_back s ≡ None → undone_from older future fs ≡ Err NothingToUndo
none_undone [] future fs s past is = refl
none_undone (c ∷ older) future fs s past is =
    let o = first_of (patched_all fs (inverses_of c.splices)) c.title (earlier older) s.past past in
    let gives : back (kept_set o.0 c.title ∷ o.1) s.present s.future ≡ None = ap (λ p. back p s.present s.future) (sym o.4) ∙ is in
    absurd (let bad : ⊥ = cc in bad)

pub nothing-is-undone : NothingIsUndone
nothing-is-undone h fs s st is = none_undone (reverse h.past) h.future fs s st.past is

none_redone : (newer : List Change) (past : List Change) (fs : List File) (s : Stack) → later newer fs ≡ Some s.future → done_again s ≡ None → redone_from newer past fs ≡ Err NothingToRedo
none_redone [] past fs s next is = refl
none_redone (c ∷ newer) past fs s next is =
    let o = first_of (patched_all fs c.splices) c.title (later newer) s.future next in
    let gives : forth s.past (kept_set o.0 c.title ∷ o.1) s.present ≡ None = ap (λ n. forth s.past n s.present) (sym o.4) ∙ is in
    absurd (let bad : ⊥ = cc in bad)

pub nothing-is-redone : NothingIsRedone
nothing-is-redone h fs s st is = none_redone (reverse h.future) h.past fs s st.future is
