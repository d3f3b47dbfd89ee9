-- An assignment is listed exactly where a statement of the project is one.
use Rattle.std.proofs.Common.{◌≡◌, inl, inr, ℕ, ◌+◌, List, [], ◌∷◌, Option, Some, None, refl, sym, ap, ◌∙◌, subst, arith}
use Rattle.std.specs.Prelude.{option_map, option_and_then}
use Rattle.std.specs.List.{Contains, cons_option, filter_map}
use Rattle.meson_lex.specs.declared.kinds.Span.{Span}
use Rattle.meson_syntax.specs.Children.{Any, an_expression, a_statement, a_block}
use Rattle.meson_syntax.specs.inside.Children.{any_of, node_at}
use Rattle.meson_syntax.specs.Paths.{Sort, of_expression, of_statement, of_block, Node, Hole, block_of, reach}
use Rattle.meson_syntax.specs.Tree.{Block, File, Statement}
use Rattle.meson_syntax.proofs.PathNodes.{inside_of, reached}
use Rattle.meson_syntax.proofs.parsing.Steps.{some-injective}
use Rattle.meson_syntax.proofs.paths.Every.{Every}
use Rattle.meson_syntax.proofs.paths.Reaching.{and-then-some}
use Rattle.meson_calls.specs.Loading.{project}
use Rattle.meson_calls.specs.Parts.{Part, parts}
use Rattle.meson_calls.specs.Parts as part
use Rattle.meson_calls.specs.Project.{BuildFile, Placed, Project, nth_file, place, placed}
use Rattle.meson_calls.proofs.CallsReached.{InProject, every_part}
use Rattle.meson_calls.proofs.PartsContained.{Names, all_has}
use Rattle.meson_calls.proofs.nodes.PartsBelow.{any}
use Rattle.meson_inventory.specs.Assignments.{assignment_of, assignments_among}
use Rattle.meson_inventory.specs.Laws.{AssignmentsAreListed, StandsIn, statement_in}
use Rattle.meson_inventory.specs.declared.assignments.HeldAssignment.{HeldAssignment}
use Rattle.meson_inventory.proofs.FoundListed.{Among, among, contained, given}

-- ---- the statement at a path

abbrev statement_any : Any Span → Option (Statement Span)
statement_any (an_expression e) = None
statement_any (a_statement s) = Some s
statement_any (a_block b) = None

abbrev on_path : File Span → List ℕ → Option (Statement Span)
on_path f path = option_and_then (λ h. statement_in h.sort h.inside) (reach Span of_block (block_of f) path)

of_any : (sort : Sort) (x : Node sort Span) → statement_in sort x ≡ statement_any (any_of Span sort x)
of_any of_expression e = refl
of_any of_statement s = refl
of_any of_block b = refl

statement_reached : (f : File Span) (path : List ℕ) → on_path f path ≡ option_and_then statement_any (node_at (a_block (block_of f)) path)
unfolding inside_of
statement_reached f path = each (reach Span of_block (block_of f) path) ∙ sym (ap (option_and_then statement_any) (reached Span of_block (block_of f) path)) where
  each : (r : Option (Hole Span (Block Span))) → option_and_then (λ h. statement_in h.sort h.inside) r ≡ option_and_then statement_any (option_map (inside_of Span) r)
  each None = refl
  each (Some h) = of_any h.sort h.inside

only_statement : (x : Any Span) (s : Statement Span) → statement_any x ≡ Some s → x ≡ a_statement s
only_statement (an_expression e) s same = absurd cc
only_statement (a_statement t) s same = ap a_statement (some-injective t s same)
only_statement (a_block b) s same = absurd cc

-- ---- elements that are chosen

from_given : {X Y Q : Type 0} (P : X → Type 0) (f : X → Option Y) (y : Y) → ((x : X) → P x → f x ≡ Some y → Q) → (xs : List X) → Every P xs → Among (filter_map f xs) y → Q
from_given P f y step [] every m = absurd m
from_given {X} {Y} {Q} P f y step (x ∷ xs) every m = first (f x) refl (from_given P f y step xs every.1) m
  where
    first : (o : Option Y) → f x ≡ o → (Among (filter_map f xs) y → Q) → Among (cons_option o (filter_map f xs)) y → Q
    first None is later n = later n
    first (Some z) is later (inl same) = step x every.0 (is ∙ ap Some same)
    first (Some z) is later (inr n) = later n

-- ---- assignments

module _ (p : Project Span) where
  abbrev chosen : Placed (Part Span) → Option HeldAssignment
  chosen q = assignment_of q.place.file q.it

  part_stands : (a : HeldAssignment) (q : Placed (Part Span)) → InProject 0 p q → chosen q ≡ Some a → StandsIn p a
  part_stands a q i is = of_part q.it refl is
    where
      file_there : nth_file p q.place.file ≡ Some i.file
      file_there = let z : 0 + i.number ≡ i.number = omega arith in ap (nth_file p) (i.is_number ∙ z) ∙ i.is_file

      of_part : (x : Part Span) → q.it ≡ x → assignment_of q.place.file x ≡ Some a → StandsIn p a
      of_part (part.an_expression e) same h = absurd (let no : ⊥ = cc in no)
      of_part (part.a_statement s) same h = record {
        place = q.place;
        statement = s;
        is_there = ap (option_and_then (λ (f : BuildFile Span). on_path f.tree q.place.path.steps)) file_there
            ∙ statement_reached i.file.tree q.place.path.steps
            ∙ ap (option_and_then statement_any) (i.is_node ∙ ap (λ y. Some (any y)) same);
        is_it = h;
      }

  listed_stands : (a : HeldAssignment) → Contains (assignments_among (parts p)) a → StandsIn p a
  listed_stands a c = from_given (InProject 0 p) chosen a (part_stands a) (parts p) (every_part 0 p) (among (assignments_among (parts p)) a c.0 c.1 c.2)

  standing_listed : (a : HeldAssignment) → StandsIn p a → Contains (assignments_among (parts p)) a
  standing_listed a s =
      let path = s.place.path.steps in
      let it = part.a_statement s.statement in
      let o = and-then-some (λ (f : BuildFile Span). on_path f.tree path) (nth_file p s.place.file) s.statement s.is_there in
      let n = and-then-some statement_any (node_at (a_block (block_of o.0.tree)) path) s.statement (sym (statement_reached o.0.tree path) ∙ o.2) in
      let is_named : Names (a_block (block_of o.0.tree)) path it = n.1 ∙ ap Some (only_statement n.0 s.statement n.2) in
      let z : 0 + s.place.file ≡ s.place.file = omega arith in
      let there = subst (λ m. Contains (parts p) (placed (place m path) it)) z (all_has 0 s.place.file p o.0 path it o.1 is_named) in
      contained (assignments_among (parts p)) a (given chosen (parts p) (placed s.place it) a (among (parts p) (placed s.place it) there.0 there.1 there.2) s.is_it)

pub assignments_are_listed : AssignmentsAreListed
assignments_are_listed l a = (listed_stands (project l) a, standing_listed (project l) a)
