-- What may be left out of each list of a project, if at each spot stands a literal that may.
use Rattle.std.specs.Prelude.{◌||◌}
use Rattle.std.proofs.Common.{◌≡◌, ℕ, suc, List, [], ◌∷◌, Some, refl, subst}
use Rattle.std.specs.Prelude.{Bool, true, false}
use Rattle.std.specs.List.{AllByRecursion}
use Rattle.meson_lex.specs.declared.kinds.Span.{Span}
use Rattle.meson_syntax.specs.Tree.{Expression, identifier, boolean, integer, string, paren, array, dictionary, call, unary, row, postfix, conditional, Listing, listing, plain, named, pair, Arguments, no_arguments, argument}
use Rattle.meson_syntax.proofs.paths.Every.{Every}
use Rattle.meson_calls.specs.declared.call.CallRef.{CallRef}
use Rattle.meson_calls.specs.Parts.{Part, an_expression, a_statement, parts}
use Rattle.meson_calls.specs.Project.{Placed, Project, expression_at}
use Rattle.meson_calls.proofs.CallsReached.{InProject, every_part}
use Rattle.meson_calls.proofs.ExpressionsAt.{expression_stands}
use Rattle.meson_sources.specs.Effects.{element_spot, goes, same_spot}
use Rattle.meson_sources.specs.SourceEdits.{Spot}
use Rattle.meson_sources.proofs.gone.Spots.{same_one}
use Rattle.meson_meaning.specs.Expressions.{call_with, sort_of}
use Rattle.meson_meaning.specs.Spots.{AreLiterals, MayGo, element_may_go, is_literal, part_may_go}
use Rattle.meson_meaning.specs.Without.{Loses, each_one, loses, loses_after, may_go, nothing}

-- ---- the elements of one list that go, by their numbers

abbrev pub ElementsMayGo : {S : Type 0} → Loses → (ℕ → Bool) → Arguments S → Type 0
ElementsMayGo m gone no_arguments = Unit {0}
ElementsMayGo m gone (argument (plain e) more) =
    (gone 0 ≡ true → may_go m (is_literal e) ≡ true) × ElementsMayGo (loses_after m (plain e)) (λ k. gone (suc k)) more
ElementsMayGo m gone (argument (named s x e) more) = (gone 0 ≡ false) × ElementsMayGo m (λ k. gone (suc k)) more
ElementsMayGo m gone (argument (pair s e f) more) = (k : ℕ) → gone k ≡ false

abbrev pub ListingMayGo : {S : Type 0} → Loses → (ℕ → Bool) → Listing S → Type 0
ListingMayGo m gone (listing s trailing list) = ElementsMayGo m gone list

-- of an expression's own list
abbrev pub Fits : {S : Type 0} → (ℕ → Bool) → Expression S → Type 0
Fits gone (array l) = ListingMayGo each_one gone l
Fits gone (dictionary l) = ListingMayGo nothing gone l
Fits gone (call s f l) = ListingMayGo (loses (sort_of (call_with f.text l))) gone l
Fits gone e = Unit {0}

abbrev pub FitsPart : {S : Type 0} → (ℕ → Bool) → Part S → Type 0
FitsPart gone (an_expression e) = Fits gone e
FitsPart gone (a_statement s) = Unit {0}

abbrev pub PartFits : {S : Type 0} → List Spot → Placed (Part S) → Type 0
PartFits spots q = FitsPart (λ n. goes spots q.place n) q.it

-- ---- a list fits where what goes of it may

not_true : (b : Bool) → (b ≡ true → false ≡ true) → b ≡ false
not_true true never = absurd (let is : false ≡ true = never refl in cc)
not_true false never = refl

elements_fit : {S : Type 0} (m : Loses) (list : Arguments S) (gone : ℕ → Bool) → ((k : ℕ) → gone k ≡ true → element_may_go m list k ≡ true) → ElementsMayGo m gone list
elements_fit m no_arguments gone may = tt
elements_fit m (argument (plain e) more) gone may = (may 0, elements_fit (loses_after m (plain e)) more (λ k. gone (suc k)) (λ k. may (suc k)))
elements_fit m (argument (named s x e) more) gone may = (not_true (gone 0) (may 0), elements_fit m more (λ k. gone (suc k)) (λ k. may (suc k)))
elements_fit m (argument (pair s e f) more) gone may = λ k. not_true (gone k) (may k)

never_may : (b : Bool) → false ≡ true → b ≡ true
never_may b never = absurd cc

fits : {S : Type 0} (e : Expression S) (gone : ℕ → Bool) → ((k : ℕ) → gone k ≡ true → part_may_go e k ≡ true) → Fits gone e
fits (array (listing s trailing list)) gone may = elements_fit each_one list gone may
fits (dictionary (listing s trailing list)) gone may = elements_fit nothing list gone (λ k is. never_may (element_may_go nothing list k) (may k is))
fits (call s f (listing r trailing list)) gone may = elements_fit (loses (sort_of (call_with f.text (listing r trailing list)))) list gone may
fits (identifier s x) gone may = tt
fits (boolean s b) gone may = tt
fits (integer s x) gone may = tt
fits (string s q x) gone may = tt
fits (paren s e) gone may = tt
fits (unary s o e) gone may = tt
fits (row s e os) gone may = tt
fits (postfix s e ts) gone may = tt
fits (conditional s c y n) gone may = tt

-- ---- in a project

module _ (p : Project Span) where
  spot_found : (spots : List Spot) (c : CallRef) (k : ℕ) → AllByRecursion (MayGo p) spots → goes spots c k ≡ true → MayGo p (element_spot c k)
  spot_found [] c k all is = absurd cc
  spot_found (s ∷ spots) c k all is = go (same_spot s (element_spot c k)) (same_one s (element_spot c k)) (spot_found spots c k all.1) is
    where
      go : (b : Bool) → (b ≡ true → s ≡ element_spot c k) → (goes spots c k ≡ true → MayGo p (element_spot c k)) → (b || goes spots c k) ≡ true → MayGo p (element_spot c k)
      go true same later is = subst (MayGo p) (same refl) all.0
      go false same later is = later is

  part_fits : (spots : List Spot) → AreLiterals p spots → (q : Placed (Part Span)) → InProject 0 p q → PartFits spots q
  part_fits spots literals q i = go q.it refl
    where
      go : (x : Part Span) → q.it ≡ x → FitsPart (λ n. goes spots q.place n) x
      go (a_statement s) is = tt
      go (an_expression e) is =
          let stands : expression_at p q.place ≡ Some e = expression_stands p q e i is in
          fits e (λ n. goes spots q.place n) (λ k goes_there.
          let found : MayGo p (element_spot q.place k) = spot_found spots q.place k literals goes_there in
          let there : expression_at p q.place ≡ Some found.list = found.is_list in
          let same : found.list ≡ e = cc in
          subst (λ x. part_may_go x k ≡ true) same found.may)

  every_fits : (spots : List Spot) → AreLiterals p spots → (qs : List (Placed (Part Span))) → Every (InProject 0 p) qs → Every (PartFits spots) qs
  every_fits spots literals [] all = tt
  every_fits spots literals (q ∷ qs) all = (part_fits spots literals q all.0, every_fits spots literals qs all.1)

  pub all_fit : (spots : List Spot) → AreLiterals p spots → Every (PartFits spots) (parts p)
  all_fit spots literals = every_fits spots literals (parts p) (every_part 0 p)
