-- Undos of files that have the digests of those that the history fitted.
use Rattle.std.proofs.Common.{◌≡◌, ◌⊎◌, ◌∙◌, ◌∷◌, [], ℕ, zero, suc, Bool, true, false, List, All, Option, Some, None, Result, Ok, Err, codes, inl, inr, refl, sym, ap, subst}
use Rattle.std.specs.List.{list_any}
use Rattle.std.specs.Prelude.{◌==◌, not, option_and_then}
use Rattle.std.proofs.lemmas.Bool.{and_parts, or_from, or_parts}
use Rattle.std.proofs.lemmas.Bool.Decides.{eqb_tells}
use Rattle.std.proofs.lemmas.List.Elements.{All-weaker}
use Rattle.std.proofs.lemmas.List.Folds.{list_any-append}
use Rattle.meson_splice.specs.declared.fault.SpliceFault.{SpliceFault}
use Rattle.meson_splice.specs.declared.fault.SpliceFault.TheVariants.{NothingToUndo}
use Rattle.meson_splice.specs.declared.file_set.File.{File}
use Rattle.meson_splice.specs.declared.history.History.{History}
use Rattle.meson_splice.specs.Past.{undone, undone_times}
use Rattle.meson_splice.specs.Patch.{then_ok}
use Rattle.meson_calls.specs.Folders.{IsFileName, goes_nowhere, is_control, slash_parts}
use Rattle.meson_calls.specs.Loading.{HasFileName}
use Rattle.meson_script.proofs.StackFacts.{nothing-is-undone}
use Rattle.meson_script.proofs.Undos.{undos-are-steps}
use Rattle.meson_script.specs.Stack.{Stack, Stands, taken_back, undos}
use Rattle.meson_sums.specs.Laws.{Collision, IsOnALine, SumsTell}
use Rattle.meson_sums.specs.Sums.{sums}
use Rattle.meson_rewrite.specs.Laws.{CheckedUndosRestore, SameSumsUndo}

-- ---- the name of a build file fits on a line

abbrev is_feed : ℕ → Bool
is_feed b = b == 10

no-feed : (c : ℕ) → is_control c ≡ false → is_feed c ≡ false
no-feed c plain = elim (eqb_tells c 10) [
  | inl feed ↦ absurd (let control : is_control 10 ≡ false = subst (λ b. is_control b ≡ false) feed.1 plain in (let no : ⊥ = cc in no))
  | inr other ↦ other.0
]

no-feeds : (folder : List ℕ) → list_any is_control folder ≡ false → list_any is_feed folder ≡ false
no-feeds [] plain = refl
no-feeds (c ∷ folder) plain =
    let parts = or_parts (is_control c) (list_any is_control folder) plain in
    or_from (is_feed c) (list_any is_feed folder) (no-feed c parts.0) (no-feeds folder parts.1)

not-so : (b : Bool) → not b ≡ true → b ≡ false
not-so true is = absurd (let no : ⊥ = cc in no)
not-so false is = refl

one-line : (name : List ℕ) → IsFileName name → list_any is_feed name ≡ false
one-line name (inl is) = ap (list_any is_feed) is
one-line name (inr (folder, is, plain)) =
    let parts = and_parts (not (list_any is_control folder)) (not (list_any goes_nowhere (slash_parts folder))) plain in
    let behind = codes "/meson.build" in
    ap (list_any is_feed) is
    ∙ list_any-append is_feed folder behind
    ∙ or_from (list_any is_feed folder) (list_any is_feed behind) (no-feeds folder (not-so (list_any is_control folder) parts.0)) refl

on-lines : (files : List File) → All HasFileName files → All IsOnALine files
on-lines files named = All-weaker HasFileName IsOnALine (λ f is. one-line f.name is) files named

-- ---- on files with the same digests

module _ (tell : SumsTell) (h : History) (left now : List File) (s : Stack) (stands : Stands h left s) (named : All HasFileName now) (same : sums now ≡ sums left) where
  still-stands : Stands h now s ⊎ Collision
  still-stands = elim (tell now left (on-lines now named) (on-lines left stands.loads.named) same) [
    | inl is ↦ inl (subst (λ files. Stands h files s) (sym is) stands)
    | inr collision ↦ inr collision
  ]

pub same-sums-undo : SumsTell → SameSumsUndo
same-sums-undo tell count h left s t now stands project same is = elim (still-stands tell h left now.files s stands project.named same) [
  | inl still ↦ inl (undos-are-steps count h now.files s t still is)
  | inr collision ↦ inr collision
]

-- ---- undos that were done

abbrev Stepped : Type 0
Stepped = Result (History × List File) SpliceFault

abbrev files-of : Stepped → List File
files-of (Ok step) = step.1
files-of (Err fault) = []

abbrev history-of : Stepped → History
history-of (Ok step) = step.0
history-of (Err fault) = record { past = []; future = [] }

done-before : (r : Stepped) (f : History × List File → Stepped) (after : History × List File) → then_ok r f ≡ Ok after → (between : History × List File) × (r ≡ Ok between)
done-before (Ok between) f after is = (between, refl)
done-before (Err fault) f after is = absurd (let no : ⊥ = cc in no)

not-both : (fault : SpliceFault) (after : History × List File) → ◌≡◌ {A = Stepped} (Err fault) (Ok after) → ⊥
not-both fault after is = cc

-- where the stack has no set for one of them, they are not done
not-done : (count : ℕ) (h : History) (files : List File) (s : Stack) (after : History × List File) → Stands h files s → undos count s ≡ None → undone_times count h files ≡ Ok after → ⊥
not-done zero h files s after stands none done = cc
not-done (suc count) h files s after stands none done = go (undos count s) refl (not-done count h files s)
  where
    go : (before : Option Stack) → undos count s ≡ before
        → ((between : History × List File) → Stands h files s → undos count s ≡ None → undone_times count h files ≡ Ok between → ⊥) → ⊥
    go None is earlier = let between = done-before (undone_times count h files) (λ m. undone m.0 m.1) after done in earlier between.0 stands is between.1
    go (Some r) is earlier =
        let all = undos-are-steps count h files s r stands is in
        let empty : taken_back r ≡ None = sym (ap (option_and_then taken_back) is) ∙ none in
        let refused = ap (λ p. then_ok p (λ m. undone m.0 m.1)) all.1 ∙ nothing-is-undone all.0 r.present r all.2 empty in
        not-both NothingToUndo after (sym refused ∙ done)

-- they are those of the stack
are-undos : (count : ℕ) (h k : History) (files after : List File) (s : Stack) → Stands h files s → undone_times count h files ≡ Ok (k, after)
    → (t : Stack) × (undos count s ≡ Some t) × (after ≡ t.present) × Stands k t.present t
are-undos count h k files after s stands done = go (undos count s) refl
  where
    go : (last : Option Stack) → undos count s ≡ last → (t : Stack) × (undos count s ≡ Some t) × (after ≡ t.present) × Stands k t.present t
    go None is = absurd (not-done count h files s (k, after) stands is done)
    go (Some t) is =
        let all = undos-are-steps count h files s t stands is in
        let both : ◌≡◌ {A = Stepped} (Ok (k, after)) (Ok (all.0, t.present)) = sym done ∙ all.1 in
        (t, is, ap files-of both, subst (λ one. Stands one t.present t) (sym (ap history-of both)) all.2)

pub checked-undos-restore : SumsTell → CheckedUndosRestore
checked-undos-restore tell json count kept left s old new report stands are_left project (has, back) =
    elim (still-stands tell old.history left old.project.files s stands project.named (sym has ∙ are_left)) [
      | inl still ↦ inl (are-undos count old.history new.history old.project.files new.project.files s still back.are_steps)
      | inr collision ↦ inr collision
    ]
