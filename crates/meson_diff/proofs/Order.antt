-- In changes those that go come first.
use Rattle.std.proofs.Common.{◌≡◌, ℕ, List, [], ◌∷◌, ◌++◌, refl, ap, subst, ◌∙◌}
use Rattle.std.proofs.lemmas.List.{append-nil}
use Rattle.meson_diff.specs.Alignment.{marked}
use Rattle.meson_diff.specs.Changes.{AreChanges, change, last_change}
use Rattle.meson_diff.specs.Laws.{GoneBeforeCome}
use Rattle.meson_diff.specs.declared.entry.Entry.{Entry}
use Rattle.meson_diff.specs.declared.entry.Mark.{Mark}
use Rattle.meson_diff.specs.declared.entry.Mark.TheVariants.{Kept, Gone, Come}

abbrev pub InOrder : List Entry → Type 0
InOrder es = (before behind : List Entry) (first second : Entry) → es ≡ before ++ (first ∷ second ∷ behind) → first.mark ≡ Come → second.mark ≡ Gone → ⊥

-- none that goes is the first
abbrev pub BeginsOtherwise : List Entry → Type 0
BeginsOtherwise es = (first : Entry) (behind : List Entry) → es ≡ first ∷ behind → first.mark ≡ Gone → ⊥

abbrev entry : Mark → List ℕ → Entry
entry mark line = record { mark = mark; line = line }

none_in_order : InOrder []
none_in_order [] behind first second is comes goes = let no : ⊥ = cc in no
none_in_order (x ∷ before) behind first second is comes goes = let no : ⊥ = cc in no

one_more : (e : Entry) (es : List Entry) → (e.mark ≡ Come → BeginsOtherwise es) → InOrder es → InOrder (e ∷ es)
one_more e es front rest [] behind first second is comes goes =
    let same : e ≡ first = cc in
    let left : es ≡ second ∷ behind = cc in
    front (ap (λ (x : Entry). x.mark) same ∙ comes) second behind left goes
one_more e es front rest (x ∷ before) behind first second is comes goes =
    let left : es ≡ before ++ (first ∷ second ∷ behind) = cc in
    rest before behind first second left comes goes

gone_in_order : (gone : List (List ℕ)) (es : List Entry) → InOrder es → InOrder (marked Gone gone ++ es)
gone_in_order [] es rest = rest
gone_in_order (line ∷ gone) es rest =
    one_more (entry Gone line) (marked Gone gone ++ es) (λ comes. let no : ⊥ = cc in absurd no) (gone_in_order gone es rest)

come_first : (come : List (List ℕ)) (es : List Entry) → BeginsOtherwise es → BeginsOtherwise (marked Come come ++ es)
come_first [] es other first behind is goes = other first behind is goes
come_first (line ∷ come) es other first behind is goes =
    let same : entry Come line ≡ first = cc in
    let both : Come ≡ Gone = ap (λ (x : Entry). x.mark) same ∙ goes in
    let no : ⊥ = cc in
    no

come_in_order : (come : List (List ℕ)) (es : List Entry) → BeginsOtherwise es → InOrder es → InOrder (marked Come come ++ es)
come_in_order [] es other rest = rest
come_in_order (line ∷ come) es other rest =
    one_more (entry Come line) (marked Come come ++ es) (λ comes. come_first come es other) (come_in_order come es other rest)

-- a kept line, and what stands behind it
kept_first : (line : List ℕ) (es : List Entry) → BeginsOtherwise (entry Kept line ∷ es)
kept_first line es first behind is goes =
    let same : entry Kept line ≡ first = cc in
    let both : Kept ≡ Gone = ap (λ (x : Entry). x.mark) same ∙ goes in
    let no : ⊥ = cc in
    no

kept_in_order : (line : List ℕ) (es : List Entry) → InOrder es → InOrder (entry Kept line ∷ es)
kept_in_order line es rest = one_more (entry Kept line) es (λ comes. let no : ⊥ = cc in absurd no) rest

changes_in_order : (es : List Entry) → AreChanges es → InOrder es
changes_in_order _ (last_change gone come none) =
    let ends : BeginsOtherwise [] = λ first behind is goes. let no : ⊥ = cc in no in
    gone_in_order gone (marked Come come) (subst InOrder (append-nil (marked Come come)) (come_in_order come [] ends none_in_order))
changes_in_order _ (change gone come line behind none changes) =
    let rest = marked Kept (line ∷ []) ++ behind in
    gone_in_order gone (marked Come come ++ rest)
    (come_in_order come rest (kept_first line behind) (kept_in_order line behind (changes_in_order behind changes)))

pub gone_before_come : GoneBeforeCome
gone_before_come before behind first second changes = changes_in_order (before ++ (first ∷ second ∷ behind)) changes before behind first second refl
