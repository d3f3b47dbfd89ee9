-- The first statement that begins on a line, in lists that are joined and searched one after another.
use Rattle.std.proofs.Common.{◌≡◌, ℕ, ◌+◌, ◌<◌, List, [], ◌∷◌, ◌++◌, length, drop, get_or, Option, Some, None, refl, sym, ap, ◌∙◌}
use Rattle.std.specs.Prelude.{Bool, true, false, if◌then◌else◌}
use Rattle.std.proofs.lemmas.List.{at_drop_more}
use Rattle.meson_lex.specs.declared.kinds.Span.{Span}
use Rattle.meson_syntax.specs.Tree.{branches_of, statements_of}
use Rattle.meson_syntax.specs.View.{branch_view, branches_view, stmt_view, stmts_view}
use Rattle.meson_syntax.specs.declared.tree.Branch.{Branch}
use Rattle.meson_syntax.specs.declared.tree.Stmt.{Stmt}
use Rattle.meson_calls.specs.declared.call.CallRef.{CallRef}
use Rattle.meson_calls.specs.Project.{child}
use Rattle.meson_targets.specs.TargetEdits.{StatementPlace}
use Rattle.meson_code.specs.Statements.{PlacedStatement, begins_on, first_on, placed_in, statements_from, statements_of_block, statements_of_branches, statements_within}

module _ (bytes : List ℕ) (line : ℕ) where
  abbrev Q : Type 0
  Q = PlacedStatement Span

  abbrev pub first : List Q → Option StatementPlace
  first = first_on bytes line

  -- where none of the first list begins on the line, it is the first of the other list
  pub none_before : (xs ys : List Q) → None ≡ first xs → first (xs ++ ys) ≡ first ys
  none_before [] ys none = refl
  none_before (q ∷ qs) ys none = go (begins_on bytes line q.it) (none_before qs ys) none
    where
      go : (b : Bool) → (None ≡ first qs → first (qs ++ ys) ≡ first ys) → None ≡ (if b then Some q.place else first qs) → (if b then Some q.place else first (qs ++ ys)) ≡ first ys
      go true later h = absurd (let no : ⊥ = cc in no)
      go false later h = later h

  pub one_before : (xs ys : List Q) (a : StatementPlace) → Some a ≡ first xs → first (xs ++ ys) ≡ Some a
  one_before [] ys a is = absurd (let no : ⊥ = cc in no)
  one_before (q ∷ qs) ys a is = go (begins_on bytes line q.it) (one_before qs ys a) is
    where
      go : (b : Bool) → (Some a ≡ first qs → first (qs ++ ys) ≡ Some a) → Some a ≡ (if b then Some q.place else first qs) → (if b then Some q.place else first (qs ++ ys)) ≡ Some a
      go true later h = sym h
      go false later h = later h

  -- the first of a list begins on the line, or not
  pub begins : (q : Q) (qs : List Q) → begins_on bytes line q.it ≡ true → first (q ∷ qs) ≡ Some q.place
  begins q qs is = ap (λ b. if b then Some q.place else first qs) is

  pub begins_not : (q : Q) (qs : List Q) → begins_on bytes line q.it ≡ false → first (q ∷ qs) ≡ first qs
  begins_not q qs is = ap (λ b. if b then Some q.place else first qs) is

  -- The statements of a list from its n-th child on are those of its first element, which is so many children, and then those of the others.
  module _ {X : Type 0} (all : ℕ → List X → List Q) (one : ℕ → X → List Q) (width : ℕ) (more : (n : ℕ) (x : X) (xs : List X) → all n (x ∷ xs) ≡ one n x ++ all (n + width) xs) where
    module _ (xs : List X) (i : ℕ) (d : X) (n : ℕ) (whole : Option StatementPlace) (here : List Q) (within : i < length xs) (is_here : here ≡ one n (get_or xs i d))
        (so_far : first (all n (drop i xs)) ≡ whole) where
      joined : first (here ++ all (n + width) (drop (i + 1) xs)) ≡ whole
      joined =
          ap (λ h. first (h ++ all (n + width) (drop (i + 1) xs))) is_here
          ∙ ap first (sym (at_drop_more (all n) xs i d within ∙ more n (get_or xs i d) (drop (i + 1) xs)))
          ∙ so_far

      pub turn : (k : ℕ) → k ≡ n + width → None ≡ first here → first (all k (drop (i + 1) xs)) ≡ whole
      turn k next none =
          ap (λ m. first (all m (drop (i + 1) xs))) next ∙ sym (none_before here (all (n + width) (drop (i + 1) xs)) none) ∙ joined

      pub found : (a : StatementPlace) → Some a ≡ first here → Some a ≡ whole
      found a is = sym (one_before here (all (n + width) (drop (i + 1) xs)) a is) ∙ joined

module _ (source : List ℕ) (p : CallRef) where
  abbrev pub listed : ℕ → List Stmt → List (PlacedStatement Span)
  listed n ss = statements_from p n (statements_of (stmts_view source ss))

  abbrev pub listed_one : ℕ → Stmt → List (PlacedStatement Span)
  listed_one n s = placed_in p n (stmt_view source s) ∷ statements_within (child p n) (stmt_view source s)

  abbrev pub branched : ℕ → List Branch → List (PlacedStatement Span)
  branched n bs = statements_of_branches p n (branches_of (branches_view source bs))

  abbrev pub branched_one : ℕ → Branch → List (PlacedStatement Span)
  branched_one n b = statements_of_block (child p (n + 1)) (branch_view source b).1
