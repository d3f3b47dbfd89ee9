-- A status tells whether a step gave files other bytes.
use Rattle.std.proofs.Common.{◌≡◌, ◌⊎◌, ◌∙◌, ℕ, zero, suc, Bool, true, false, List, [], ◌∷◌, Ok, inl, inr, refl, sym, ap, ap₂, subst, arith}
use Rattle.std.specs.Prelude.{◌≢◌, ◌==◌, bytes_eq, cond, not}
use Rattle.std.proofs.lemmas.Bool.Decides.{nat_tests}
use Rattle.std.proofs.lemmas.Slice.Eq.{bytes_eq-Decides}
use Rattle.meson_splice.proofs.Counts.{differing-same}
use Rattle.meson_splice.specs.Files.{differing}
use Rattle.meson_splice.specs.declared.file_set.File.{File}
use Rattle.meson_script.proofs.RunFacts.{names}
use Rattle.meson_script.specs.declared.session.Report.{Report}
use Rattle.meson_script.specs.declared.session.Session.{Session}
use Rattle.meson_rewrite.proofs.Names.{step-names}
use Rattle.meson_rewrite.specs.Laws.{StatusesTellChanges}
use Rattle.meson_rewrite.specs.Lines.{status}
use Rattle.meson_rewrite.specs.Objects.{changes_files}
use Rattle.meson_rewrite.specs.Steps.{Does, SaysStep, ShowsStep, only_tells}
use Rattle.meson_rewrite.specs.declared.request.Step.{Step}
use Rattle.meson_rewrite.specs.declared.request.Step.TheVariants.{Run, Tell, Undo, UndoTo, UndoChecked, Redo, ForgetOldest, ForgetAll}
use Rattle.meson_rewrite.specs.declared.said.Said.{Said}

-- ---- files of the same names

same-head : (f g : File) → f.name ≡ g.name → bytes_eq f.bytes g.bytes ≡ true → f ≡ g
same-head f g named is = ap₂ (λ n b. let file : File = record { name = n; bytes = b } in file) named ((bytes_eq-Decides f.bytes g.bytes).0 is)

-- none differs: they are the same
pub all-same : (old new : List File) → names old ≡ names new → differing old new ≡ 0 → old ≡ new
all-same [] [] named none = refl
all-same [] (g ∷ new) named none = absurd (let no : ⊥ = cc in no)
all-same (f ∷ old) [] named none = absurd (let no : ⊥ = cc in no)
all-same (f ∷ old) (g ∷ new) named none =
    let head : f.name ≡ g.name = cc in
    let rest : names old ≡ names new = cc in
    go (bytes_eq f.bytes g.bytes) refl head (all-same old new rest) none
  where
    go : (same : Bool) → bytes_eq f.bytes g.bytes ≡ same → f.name ≡ g.name → (differing old new ≡ 0 → old ≡ new)
        → cond same (differing old new) (suc (differing old new)) ≡ 0 → f ∷ old ≡ g ∷ new
    go true is head rest none = ap₂ (λ x xs. x ∷ xs) (same-head f g head is) (rest none)
    go false is head rest none = absurd (omega (arith, none))

-- ---- by the number of files that differ

abbrev pub Tells : List File → List File → Bool → Type 0
Tells old new changed = ((new ≡ old) × (changed ≡ false)) ⊎ ((new ≢ old) × (changed ≡ true))

not-zero : (n : ℕ) (b : Bool) → (suc n == 0) ≡ b → not b ≡ true
not-zero n true e = absurd (let zero : suc n ≡ 0 = grind (arith, nat_tests) in omega (arith, zero))
not-zero n false e = refl

counted-by : (old new : List File) (n : ℕ) → names old ≡ names new → n ≡ differing old new → Tells old new (not (n == 0))
counted-by old new zero named is = inl (sym (all-same old new named (sym is)), refl)
counted-by old new (suc n) named is =
    inr ((λ same. let none : suc n ≡ 0 = is ∙ ap (differing old) same ∙ differing-same old in absurd (omega (arith, none))), not-zero n (suc n == 0) refl)

pub by-step : (json : Bool) (step : Step) (old new : Session) (report : Report) → only_tells step ≡ false → Does json step old report new
    → Tells old.project.files new.project.files (changes_files step report)
by-step json (Run script title) old new report writes does = counted-by _ _ report.files (step-names json (Run script title) old new report does) does.files
by-step json (Tell script) old new report writes does = absurd (let no : ⊥ = cc in no)
by-step json Undo old new report writes does = counted-by _ _ report.files (step-names json Undo old new report does) does.files
by-step json (UndoTo count) old new report writes does = counted-by _ _ report.files (step-names json (UndoTo count) old new report does) does.files
by-step json (UndoChecked count kept) old new report writes does = counted-by _ _ report.files (step-names json (UndoChecked count kept) old new report does) does.1.files
by-step json Redo old new report writes does = counted-by _ _ report.files (step-names json Redo old new report does) does.files
by-step json (ForgetOldest count) old new report writes does = inl (ap (λ p. p.files) does.1.project, refl)
by-step json ForgetAll old new report writes does = inl (ap (λ p. p.files) does.1.project, refl)

-- ---- what is said of it

says-object : (step : Step) (old new : List File) (report : Report) (said : Said) → SaysStep true step old new report said → said.changed ≡ changes_files step report
says-object (ForgetOldest count) old new report said is = ap (λ (s : Said). s.changed) is
says-object ForgetAll old new report said is = ap (λ (s : Said). s.changed) is
says-object (Run script title) old new report said (changes, are, listings, text, is) = ap (λ (s : Said). s.changed) is
says-object (Tell script) old new report said (changes, are, listings, text, is) = ap (λ (s : Said). s.changed) is
says-object Undo old new report said (changes, are, listings, text, is) = ap (λ (s : Said). s.changed) is
says-object (UndoTo count) old new report said (changes, are, listings, text, is) = ap (λ (s : Said). s.changed) is
says-object (UndoChecked count kept) old new report said (changes, are, listings, text, is) = ap (λ (s : Said). s.changed) is
says-object Redo old new report said (changes, are, listings, text, is) = ap (λ (s : Said). s.changed) is

pub says-changed : (json : Bool) (step : Step) (old new : Session) (report : Report) (said : Said)
    → SaysStep json step old.project.files new.project.files report said ⊎ ShowsStep json step old report new said → said.changed ≡ changes_files step report
says-changed true step old new report said (inl says) = says-object step old.project.files new.project.files report said says
says-changed true step old new report said (inr shows) = says-object step old.project.files new.project.files report said shows
says-changed false step old new report said (inl says) = ap (λ (s : Said). s.changed) says
says-changed false step old new report said (inr shows) = shows.is_changed

told-so : (old new : List File) (said : Said) → Tells old new said.changed → ((new ≡ old) × (status true (Ok said) ≡ 0)) ⊎ ((new ≢ old) × (status true (Ok said) ≡ 4))
told-so old new said (inl t) = inl (t.0, ap (λ b. cond b 4 0) t.1)
told-so old new said (inr t) = inr (t.0, ap (λ b. cond b 4 0) t.1)

pub statuses-tell-changes : StatusesTellChanges
statuses-tell-changes json step old new report said writes does says =
    told-so old.project.files new.project.files said
    (subst (Tells old.project.files new.project.files) (sym (says-changed json step old new report said says)) (by-step json step old new report writes does))
