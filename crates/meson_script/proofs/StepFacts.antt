-- The last change of a history, moved.
use Rattle.std.proofs.Common.{◌≡◌, ◌≢◌, ℕ, List, [], ◌∷◌, ◌++◌, reverse, Option, Some, None, Result, Ok, Err, refl, sym, ap, ap₂, ◌∙◌, subst}
use Rattle.std.specs.Prelude.{IfErr, IfOk}
use Rattle.std.proofs.lemmas.List.{reverse-append, reverse-reverse}
use Rattle.serde_json.specs.Data.{Data}
use Rattle.meson_splice.specs.declared.change.Change.{Change}
use Rattle.meson_splice.specs.declared.fault.SpliceFault.{SpliceFault}
use Rattle.meson_splice.specs.declared.fault.SpliceFault.TheVariants as splice
use Rattle.meson_splice.specs.declared.file_set.File.{File}
use Rattle.meson_splice.specs.declared.history.History.{History}
use Rattle.meson_splice.specs.declared.splice.Splice.{Splice as ASplice}
use Rattle.meson_splice.specs.Patch.{patched_all, inverses_of, then_ok}
use Rattle.meson_splice.specs.Past.{undone, undone_from, redone, redone_from}
use Rattle.meson_calls.specs.declared.load_fault.LoadFault.{LoadFault}
use Rattle.meson_calls.specs.declared.load_fault.LoadFault.TheVariants as load
use Rattle.meson_calls.specs.Loading.{Loaded, IsProject, MayNotLoad}
use Rattle.meson_steps.specs.declared.command.Command.{Command}
use Rattle.meson_script.specs.Running.{Runs}
use Rattle.meson_script.specs.declared.fault.UndoFault.{UndoFault}
use Rattle.meson_script.specs.declared.fault.UndoFault.TheVariants.{Splice, Load}
use Rattle.meson_script.specs.Stack.{KeptSet, Stack, Stands, Loads, ran, back, forth, taken_back, done_again, RefusesStep, RefusesUndo, RefusesRedo}
use Rattle.meson_script.specs.Undoing.{MayNotChange, MayNotStep}
use Rattle.meson_script.proofs.Loading.{loads-or-wants-memory, project-loads}
use Rattle.meson_script.proofs.RunFacts.{runs-patch}
use Rattle.meson_script.proofs.StackFacts.{run-is-a-step, undo-is-a-step, nothing-is-undone, redo-is-a-step, nothing-is-redone}

-- ---- the last change of the past

abbrev Stepped : Type 0
Stepped = Result (History × List File) SpliceFault

pub undone-last : (front : List Change) (c : Change) (h : History) (files : List File) → h.past ≡ front ++ c ∷ []
    → undone h files ≡ then_ok (patched_all files (inverses_of c.splices)) (λ before. let r : Stepped = Ok (record { past = front; future = h.future ++ c ∷ [] }, before) in r)
undone-last front c h files is =
    let turned : reverse h.past ≡ c ∷ reverse front = ap reverse is ∙ reverse-append front (c ∷ []) in
    ap (λ cs. undone_from cs h.future files) turned
    ∙ ap (λ p. then_ok (patched_all files (inverses_of c.splices)) (λ before. let r : Stepped = Ok (record { past = p; future = h.future ++ c ∷ [] }, before) in r)) (reverse-reverse front)

pub redone-last : (front : List Change) (c : Change) (h : History) (files : List File) → h.future ≡ front ++ c ∷ []
    → redone h files ≡ then_ok (patched_all files c.splices) (λ after. let r : Stepped = Ok (record { past = h.past ++ c ∷ []; future = front }, after) in r)
redone-last front c h files is =
    let turned : reverse h.future ≡ c ∷ reverse front = ap reverse is ∙ reverse-append front (c ∷ []) in
    ap (λ cs. redone_from cs h.past files) turned
    ∙ ap (λ p. then_ok (patched_all files c.splices) (λ after. let r : Stepped = Ok (record { past = h.past ++ c ∷ []; future = p }, after) in r)) (reverse-reverse front)

-- files that splices gave, or why they gave none
abbrev Files : Type 0
Files = Result (List File) SpliceFault

module _ (given : Files) (by : List File → Files) (seen files : List File) (same : seen ≡ files) (held : IfOk given (λ fs. by seen ≡ Ok fs)) where
  given-by : (r : Files) (after : List File) → IfOk r (λ fs. by seen ≡ Ok fs) → r ≡ Ok after → by seen ≡ Ok after
  given-by (Ok fs) after here is = here ∙ is
  given-by (Err e) after here is = let bad : ⊥ = cc in absurd bad

  refused-by : (r : Files) (e : SpliceFault) → IfErr r (λ f. f ≢ splice.OutOfMemory → by seen ≡ Err f) → r ≡ Err e → e ≢ splice.OutOfMemory → by seen ≡ Err e
  refused-by (Ok fs) e none is told = let bad : ⊥ = cc in absurd bad
  refused-by (Err f) e none is told = let one : f ≡ e = cc in subst (λ x. by seen ≡ Err x) one (none (λ other. told (sym one ∙ other)))

  pub files-given : (after : List File) → given ≡ Ok after → by files ≡ Ok after
  files-given after is = ap by (sym same) ∙ given-by given after held is

  pub fault-given : (fault : UndoFault) → IfErr given (λ f. f ≢ splice.OutOfMemory → by seen ≡ Err f) → MayNotChange given fault → MayNotChange (by files) fault
  fault-given (Splice e) none why = λ told. ap by (sym same) ∙ refused-by given e none (why told) told
  fault-given (Load f) none why = (why.0, files-given why.0 why.1, why.2)

-- a change that is refused refuses the step
pub refused-change : (r : Result (List File) SpliceFault) (k : List File → History) (f : UndoFault) → MayNotChange r f → MayNotStep (then_ok r (λ files. let s : Stepped = Ok (k files, files) in s)) f
refused-change r k (Splice e) h = λ told. ap (λ q. then_ok q (λ files. let s : Stepped = Ok (k files, files) in s)) (h told)
refused-change r k (Load f) h = (k h.0, h.0, ap (λ q. then_ok q (λ files. let s : Stepped = Ok (k files, files) in s)) h.1, h.2)

-- two lists that end in one element each
pub last-ends : {A : Type 0} (xs ys : List A) (x y : A) → xs ++ x ∷ [] ≡ ys ++ y ∷ [] → (xs ≡ ys) × (x ≡ y)
last-ends xs ys x y e =
    let turned : x ∷ reverse xs ≡ y ∷ reverse ys = sym (reverse-append xs (x ∷ [])) ∙ ap reverse e ∙ reverse-append ys (y ∷ []) in
    let tails : reverse xs ≡ reverse ys = cc in
    let heads : x ≡ y = cc in
    (sym (reverse-reverse xs) ∙ ap reverse tails ∙ reverse-reverse ys, heads)

-- the step that moves the last change
pub undone-moved : (h : History) (files after : List File) (front moved future : List Change) (c x : Change) → h.past ≡ front ++ c ∷ [] → patched_all files (inverses_of c.splices) ≡ Ok after
    → h.past ≡ moved ++ x ∷ [] → future ≡ h.future ++ x ∷ [] → undone h files ≡ Ok (record { past = moved; future = future }, after)
undone-moved h files after front moved future c x is done past next =
    let ends = last-ends front moved c x (sym is ∙ past) in
    undone-last front c h files is
    ∙ ap (λ q. then_ok q (λ before. let r : Stepped = Ok (record { past = front; future = h.future ++ c ∷ [] }, before) in r)) done
    ∙ ap₂ (λ p f. let r : Stepped = Ok (record { past = p; future = f }, after) in r) ends.0 (ap (λ y. h.future ++ y ∷ []) ends.1 ∙ sym next)

pub redone-moved : (h : History) (files after : List File) (front moved past : List Change) (c x : Change) → h.future ≡ front ++ c ∷ [] → patched_all files c.splices ≡ Ok after
    → h.future ≡ moved ++ x ∷ [] → past ≡ h.past ++ x ∷ [] → redone h files ≡ Ok (record { past = past; future = moved }, after)
redone-moved h files after front moved past c x is done next before =
    let ends = last-ends front moved c x (sym is ∙ next) in
    redone-last front c h files is
    ∙ ap (λ q. then_ok q (λ after_it. let r : Stepped = Ok (record { past = h.past ++ c ∷ []; future = front }, after_it) in r)) done
    ∙ ap₂ (λ p f. let r : Stepped = Ok (record { past = p; future = f }, after) in r) (ap (λ y. h.past ++ y ∷ []) ends.1 ∙ sym before) ends.0

-- ---- a run of a history that fits

pub run-stands : (old new copy : Loaded) (h k : History) (commands : List Command) (title : List ℕ) (splices all : List ASplice) (relexed : ℕ) (listings : List Data) → copy ≡ old → Runs copy commands splices relexed listings new → IsProject new
    → all ≡ splices → k ≡ record { past = h.past ++ record { splices = all; title = title } ∷ []; future = [] } → (s : Stack) → Stands h old.files s → Stands k new.files (ran s title new.files)
run-stands old new copy h k commands title splices all relexed listings same runs is are is_kept s stands =
    let c : Change = record { splices = all; title = title } in
    let done : patched_all old.files all ≡ Ok new.files = ap (patched_all old.files) are ∙ ap (λ p. patched_all p.files splices) (sym same) ∙ runs-patch copy new commands splices relexed listings runs in
    subst (λ j. Stands j new.files (ran s title new.files)) (sym is_kept) (run-is-a-step h old.files new.files s c stands done (project-loads new is))

-- ---- a history that fits

same_step : (h k : History) (fs gs : List File) → ◌≡◌ {A = Stepped} (Ok (h, fs)) (Ok (k, gs)) → (h ≡ k) × (fs ≡ gs)
same_step h k fs gs e = let pairs : ◌≡◌ {A = History × List File} (h, fs) (k, gs) = cc in (ap (λ p. p.0) pairs, ap (λ p. p.1) pairs)

stood : (h k : History) (fs gs : List File) (t : Stack) → h ≡ k → fs ≡ gs → Stands h fs t → Stands k gs t
stood h k fs gs t same_h same_fs st = subst (λ g. Stands k g t) same_fs (subst (λ j. Stands j fs t) same_h st)

undo-stands-by : (o : Option Stack) (h k : History) (fs gs : List File) (s : Stack) → taken_back s ≡ o → Stands h fs s → undone h fs ≡ Ok (k, gs) → (t : Stack) × (taken_back s ≡ Some t) × Stands k gs t
undo-stands-by None h k fs gs s is st done =
    let other : ◌≡◌ {A = Stepped} (Err splice.NothingToUndo) (Ok (k, gs)) = sym (nothing-is-undone h fs s st is) ∙ done in
    absurd (let bad : ⊥ = cc in bad)
undo-stands-by (Some t) h k fs gs s is st done =
    let n = undo-is-a-step h fs s t st is in
    let same = same_step n.0 k t.present gs (sym n.1 ∙ done) in
    (t, is, stood n.0 k t.present gs t same.0 same.1 n.2)

pub undo-stands : (h k : History) (fs gs : List File) (s : Stack) → Stands h fs s → undone h fs ≡ Ok (k, gs) → (t : Stack) × (taken_back s ≡ Some t) × Stands k gs t
undo-stands h k fs gs s st done = undo-stands-by (taken_back s) h k fs gs s refl st done

redo-stands-by : (o : Option Stack) (h k : History) (fs gs : List File) (s : Stack) → done_again s ≡ o → Stands h fs s → redone h fs ≡ Ok (k, gs) → (t : Stack) × (done_again s ≡ Some t) × Stands k gs t
redo-stands-by None h k fs gs s is st done =
    let other : ◌≡◌ {A = Stepped} (Err splice.NothingToRedo) (Ok (k, gs)) = sym (nothing-is-redone h fs s st is) ∙ done in
    absurd (let bad : ⊥ = cc in bad)
redo-stands-by (Some t) h k fs gs s is st done =
    let n = redo-is-a-step h fs s t st is in
    let same = same_step n.0 k t.present gs (sym n.1 ∙ done) in
    (t, is, stood n.0 k t.present gs t same.0 same.1 n.2)

pub redo-stands : (h k : History) (fs gs : List File) (s : Stack) → Stands h fs s → redone h fs ≡ Ok (k, gs) → (t : Stack) × (done_again s ≡ Some t) × Stands k gs t
redo-stands h k fs gs s st done = redo-stands-by (done_again s) h k fs gs s refl st done

-- ---- what is refused then

-- a step that is done is no refusal of splices
done_or : (r : Stepped) (k : History) (gs : List File) (e : SpliceFault) → r ≡ Ok (k, gs) → (e ≢ splice.OutOfMemory → r ≡ Err e) → e ≢ splice.OutOfMemory → ⊥
done_or r k gs e done refused told =
    let other : ◌≡◌ {A = Stepped} (Ok (k, gs)) (Err e) = sym done ∙ refused told in
    let bad : ⊥ = cc in bad

-- the files of a step that is done load
loads_or : (r : Stepped) (k : History) (gs : List File) (f : LoadFault) → r ≡ Ok (k, gs) → Loads gs → (h : History) → (files : List File) → r ≡ Ok (h, files) → MayNotLoad files f → f ≢ load.OutOfMemory → ⊥
loads_or r k gs f done loads h files is why told =
    let same = same_step h k files gs (sym is ∙ done) in
    loads-or-wants-memory gs f loads (subst (λ fs. MayNotLoad fs f) same.1 why) told

-- a step that is done is refused for want of memory alone
refuses-done : (nothing : SpliceFault) (is_none : Type 0) (r : Stepped) (k : History) (gs : List File) (f : UndoFault) → r ≡ Ok (k, gs) → Loads gs → MayNotStep r f → RefusesStep nothing is_none f
refuses-done nothing is_none r k gs (Splice e) done loads why = λ told. absurd (done_or r k gs e done why told)
refuses-done nothing is_none r k gs (Load load.TooManyFiles) done loads why = absurd (loads_or r k gs load.TooManyFiles done loads why.0 why.1 why.2 why.3 (λ q. cc))
refuses-done nothing is_none r k gs (Load (load.BadFileName i)) done loads why = absurd (loads_or r k gs (load.BadFileName i) done loads why.0 why.1 why.2 why.3 (λ q. cc))
refuses-done nothing is_none r k gs (Load (load.Parse i fault)) done loads why = absurd (loads_or r k gs (load.Parse i fault) done loads why.0 why.1 why.2 why.3 (λ q. cc))
refuses-done nothing is_none r k gs (Load load.OutOfMemory) done loads why = refl

none_undo : (past : List KeptSet) (present : List File) (future : List KeptSet) → back past present future ≡ None → past ≡ []
none_undo [] present future is = refl
none_undo (p ∷ past) present future is = absurd (let bad : ⊥ = cc in bad)

none_redo : (past : List KeptSet) (future : List KeptSet) (present : List File) → forth past future present ≡ None → future ≡ []
none_redo past [] present is = refl
none_redo past (n ∷ future) present is = absurd (let bad : ⊥ = cc in bad)

not_done : (r : Stepped) (e : SpliceFault) (h : History) (files : List File) → r ≡ Err e → r ≡ Ok (h, files) → ⊥
not_done r e h files is done =
    let same : ◌≡◌ {A = Stepped} (Err e) (Ok (h, files)) = sym is ∙ done in
    let bad : ⊥ = cc in bad

-- where nothing is there for a step, that alone is its refusal
refuses-none : (nothing : SpliceFault) (is_none : Type 0) (r : Stepped) (f : UndoFault) → r ≡ Err nothing → is_none → MayNotStep r f → RefusesStep nothing is_none f
refuses-none nothing is_none r (Splice e) none there why = λ told.
    let same : ◌≡◌ {A = Stepped} (Err nothing) (Err e) = sym none ∙ why told in
    let is : e ≡ nothing = cc in (is, there)
refuses-none nothing is_none r (Load e) none there why = absurd (not_done r nothing why.0 why.1 none why.2)

undo-refuses-by : (o : Option Stack) (s : Stack) (h : History) (fs : List File) (f : UndoFault) → taken_back s ≡ o → Stands h fs s → MayNotStep (undone h fs) f → RefusesUndo s f
undo-refuses-by None s h fs f is st why = refuses-none splice.NothingToUndo (s.past ≡ []) (undone h fs) f (nothing-is-undone h fs s st is) (none_undo s.past s.present s.future is) why
undo-refuses-by (Some t) s h fs f is st why = let n = undo-is-a-step h fs s t st is in refuses-done splice.NothingToUndo (s.past ≡ []) (undone h fs) n.0 t.present f n.1 n.2.loads why

pub undo-refuses : (s : Stack) (h : History) (fs : List File) (f : UndoFault) → Stands h fs s → MayNotStep (undone h fs) f → RefusesUndo s f
undo-refuses s h fs f st why = undo-refuses-by (taken_back s) s h fs f refl st why

redo-refuses-by : (o : Option Stack) (s : Stack) (h : History) (fs : List File) (f : UndoFault) → done_again s ≡ o → Stands h fs s → MayNotStep (redone h fs) f → RefusesRedo s f
redo-refuses-by None s h fs f is st why = refuses-none splice.NothingToRedo (s.future ≡ []) (redone h fs) f (nothing-is-redone h fs s st is) (none_redo s.past s.future s.present is) why
redo-refuses-by (Some t) s h fs f is st why = let n = redo-is-a-step h fs s t st is in refuses-done splice.NothingToRedo (s.future ≡ []) (redone h fs) n.0 t.present f n.1 n.2.loads why

pub redo-refuses : (s : Stack) (h : History) (fs : List File) (f : UndoFault) → Stands h fs s → MayNotStep (redone h fs) f → RefusesRedo s f
redo-refuses s h fs f st why = redo-refuses-by (done_again s) s h fs f refl st why
