-- A statement that is found may be removed, and nothing outside it needs what it sets.
use Rattle.std.proofs.Common.{◌≡◌, ℕ, List, [], ◌∷◌, ◌++◌, length, Option, Some, None, Result, Ok, refl, sym, ap, ◌∙◌, subst, inl, inr}
use Rattle.std.specs.Prelude.{Bool, true, false, not, ◌&&◌, ◌||◌, ◌⊎◌, if◌then◌else◌, unwrap_or}
use Rattle.std.specs.List.{Contains, find}
use Rattle.std.proofs.lemmas.List.Elements.{Contains-append_left, Contains-append_right}
use Rattle.meson_lex.specs.declared.kinds.Span.{Span}
use Rattle.meson_syntax.specs.Tree.{Plain}
use Rattle.meson_syntax.proofs.parsing.Steps.{some-injective}
use Rattle.meson_syntax.proofs.paths.Reaching.{and-then-some}
use Rattle.meson_calls.specs.declared.refusal.Refusal.{Refusal}
use Rattle.meson_calls.specs.Loading.{IsProject, Loaded, project}
use Rattle.meson_calls.specs.Notes.{Note, notes}
use Rattle.meson_calls.specs.Parts.{Part, parts}
use Rattle.meson_calls.specs.Project.{Placed}
use Rattle.meson_steps.specs.declared.argument.Search.{Search}
use Rattle.meson_steps.specs.declared.step.ListEdit.TheVariants as code_edit
use Rattle.meson_steps.specs.ListSteps.{AreDoable, bare}
use Rattle.meson_steps.specs.ResultLimits.{plain_trees}
use Rattle.meson_steps.specs.Steps.{Step, all_stepped, stepped}
use Rattle.meson_targets.specs.TargetEdits.{StatementPlace, is_in_statement, is_used_outside, part_uses}
use Rattle.meson_targets.proofs.TargetsDoable.{statement_doable}
use Rattle.meson_places.specs.Uses.{placeholder, source_holds}
use Rattle.meson_code.specs.Anchors.{the_anchor}
use Rattle.meson_code.specs.Removal.{blank_lines, first_needed, is_formatted_outside, is_needed, names_set, removal_step, removed_at, set_by, set_within, span_at, texts_outside, unless_needed}
use Rattle.meson_code.specs.RemovalLaws.{FormatsOutside, HasRest, NothingNeeds, RemovalsLeave, UsesOutside}
use Rattle.meson_code.specs.Removing.{code_removed_at, steps_after}
use Rattle.meson_code.specs.Unused.{names_read, trees_without}
use Rattle.meson_code.specs.UnusedLaws.{AreCleared}
use Rattle.meson_code.proofs.AnchorsFound.{anchors_are_there}
use Rattle.meson_code.proofs.Cleared.{unused_are_unneeded}
use Rattle.meson_code.proofs.InsertionsDoable.{ok_then}
use Rattle.meson_code.proofs.Tests.{none_in, some_test, which}

-- ---- the step

pub step_doable : (l : Loaded) → IsProject l → (s : Search) (a : StatementPlace) → the_anchor l s ≡ Ok a → AreDoable (removal_step (project l) a ∷ []) (plain_trees l)
step_doable l is s a found = let there = anchors_are_there l s a found in statement_doable l is (blank_lines (project l) a) a there.0 there.1

pub step_bare : (l : Loaded) (a : StatementPlace)
    → bare (removal_step (project l) a) ≡ Some (record { list = a.block; edit = code_edit.RemoveStatement a.number (blank_lines (project l) a) })
step_bare l a = refl

-- ---- nothing else needs it

none_found : {X : Type 0} (p : X → Bool) (xs : List X) (x : X) → find p xs ≡ None → Contains xs x → p x ≡ true → ⊥
none_found p [] x none c is = none_in x c
none_found p (y ∷ ys) x none c is = go (which y ys x c) (none_found p ys x)
  where
    rest : (b : Bool) → (if b then Some y else find p ys) ≡ None → find p ys ≡ None
    rest true h = absurd (let no : ⊥ = cc in no)
    rest false h = h

    go : (y ≡ x) ⊎ Contains ys x → (find p ys ≡ None → Contains ys x → p x ≡ true → ⊥) → ⊥
    go (inl same) later =
        let found = sym (ap (λ b. if b then Some y else find p ys) (ap p same ∙ is)) ∙ none in
        let no : ⊥ = cc in no
    go (inr k) later = later (rest (p y) none) k is

in_set : (a : StatementPlace) (ns : List (Placed (Note Span))) (n : Placed (Note Span)) (x : List ℕ) → Contains ns n → is_in_statement a n.place ≡ true → Contains (names_set n.it) x
    → Contains (set_within a ns) x
in_set a [] n x c is sets = absurd (none_in n c)
in_set a (m ∷ ns) n x c is sets = go (which m ns n c) (in_set a ns n x)
  where
    own : Placed (Note Span) → List (List ℕ)
    own k = if is_in_statement a k.place then names_set k.it else []

    sets_it : Contains (own n) x
    sets_it = subst (λ b. Contains (if b then names_set n.it else []) x) (sym is) sets

    go : (m ≡ n) ⊎ Contains ns n → (Contains ns n → is_in_statement a n.place ≡ true → Contains (names_set n.it) x → Contains (set_within a ns) x) → Contains (set_within a (m ∷ ns)) x
    go (inl same) later = Contains-append_left (own m) (set_within a ns) x (subst (λ (k : Placed (Note Span)). Contains (own k) x) (sym same) sets_it)
    go (inr k) later = Contains-append_right (own m) (set_within a ns) x (later k is sets)

module _ (l : Loaded) (a : StatementPlace) where
  needed_used : (x : List ℕ) → is_used_outside (project l) a x ≡ true → is_needed l a x ≡ true
  needed_used x is = ap (λ b. b || is_formatted_outside l a x) is

  needed_formatted : (x : List ℕ) → is_formatted_outside l a x ≡ true → is_needed l a x ≡ true
  needed_formatted x is = go (is_used_outside (project l) a x) is
    where
      go : (b : Bool) → is_formatted_outside l a x ≡ true → (b || is_formatted_outside l a x) ≡ true
      go true h = refl
      go false h = h

  needed_by : (x : List ℕ) → UsesOutside l a x ⊎ FormatsOutside l a x → is_needed l a x ≡ true
  needed_by x (inl u) =
      needed_used x (some_test (λ (q : Placed (Part Span)). not (is_in_statement a q.place) && part_uses x q.it) (parts (project l)) u.part u.is_part
      (ap (λ b. not b && part_uses x u.part.it) u.is_outside ∙ u.uses))
  needed_by x (inr f) =
      needed_formatted x (some_test (source_holds (placeholder x)) (texts_outside l.files a.block.file (span_at l a)) f.text f.is_text f.holds)

  pub nothing_needs : first_needed l a ≡ None → NothingNeeds l a
  nothing_needs none x s n =
      none_found (is_needed l a) (set_by (project l) a) x none (in_set a (notes (project l)) s.note x s.is_note s.is_within s.sets) (needed_by x n)

  pub unneeded : (o : Option (List ℕ)) (step : Step) (steps : List Step) → unless_needed o step ≡ Ok steps → (o ≡ None) × (step ∷ [] ≡ steps)
  unneeded None step steps is = (refl, cc)
  unneeded (Some x) step steps is = absurd (let no : ⊥ = cc in no)

-- ---- what is left

all_made : (l : Loaded) (a : StatementPlace) (unused : Bool) (steps : List Step) (after : List Plain)
    → (if unused then removal_step (project l) a ∷ steps_after l a else removal_step (project l) a ∷ []) ≡ steps → all_stepped steps (plain_trees l) ≡ Some after
    → (between : List Plain) × (stepped (removal_step (project l) a) (plain_trees l) ≡ Some between) × HasRest unused l.files between after
all_made l a true steps after are made =
    let step = removal_step (project l) a in
    let o = and-then-some (all_stepped (steps_after l a)) (stepped step (plain_trees l)) after (ap (λ ss. all_stepped ss (plain_trees l)) are ∙ made) in
    let same : trees_without a (plain_trees l) ≡ o.0 = ap (λ v. unwrap_or v (plain_trees l)) o.1 in
    let rest = unused_are_unneeded (length (notes (project l))) l.files (names_read (project l) a) (trees_without a (plain_trees l)) after
    (subst (λ ts. all_stepped (steps_after l a) ts ≡ Some after) (sym same) o.2) in
    (o.0, o.1, subst (λ ts. AreCleared l.files ts after) same rest)
all_made l a false steps after are made =
    let o = and-then-some (all_stepped []) (stepped (removal_step (project l) a) (plain_trees l)) after (ap (λ ss. all_stepped ss (plain_trees l)) are ∙ made) in
    (o.0, o.1, some-injective o.0 after o.2)

pub removals_leave : RemovalsLeave
removals_leave l s unused steps after is made =
    let o = ok_then (the_anchor l s) (code_removed_at l unused) steps is in
    let a = o.0 in
    let t = ok_then (removed_at l a) (λ ss. Ok (if unused then ss ++ steps_after l a else ss)) steps o.2 in
    let u = unneeded l a (first_needed l a) (removal_step (project l) a) t.0 t.1 in
    let m = all_made l a unused steps after (joined a unused t.0 u.1 t.2) made in
    record {
      statement = a;
      may_go = record { is_found = o.1; is_there = anchors_are_there l s a o.1; unneeded = nothing_needs l a u.0 };
      between = m.0;
      goes = m.1;
      rest = m.2;
    }
  where
    ok_is : (xs ys : List Step) → ◌≡◌ {A = Result (List Step) Refusal} (Ok xs) (Ok ys) → xs ≡ ys
    ok_is xs ys same = cc

    joined : (a : StatementPlace) (u : Bool) (first : List Step) → removal_step (project l) a ∷ [] ≡ first → ◌≡◌ {A = Result (List Step) Refusal} (Ok (if u then first ++ steps_after l a else first)) (Ok steps)
        → (if u then removal_step (project l) a ∷ steps_after l a else removal_step (project l) a ∷ []) ≡ steps
    joined a true first same h = ap (λ ss. ss ++ steps_after l a) same ∙ ok_is (first ++ steps_after l a) steps h
    joined a false first same h = same ∙ ok_is first steps h
