-- What marks say, gathered mark by mark, and the variables that were followed.
use Rattle.std.specs.Prelude.{◌≡◌, ℕ, zero, suc, ◌+◌, List, [], ◌∷◌, ◌++◌, length, map, reverse, Option, Some, None, option_map}
use Rattle.meson_lex.specs.declared.kinds.Span.{Span}
use Rattle.meson_syntax.specs.Tree.{Expression}
use Rattle.meson_calls.specs.declared.call.CallRef.{CallRef}
use Rattle.meson_variables.specs.declared.source.SourceItem.{SourceItem}
use Rattle.meson_variables.specs.declared.followed.Followed.{Followed}
use Rattle.meson_variables.specs.declared.marks.Marks.{Marks}
use Rattle.meson_variables.specs.declared.marks.Site.{Site}
use Rattle.meson_calls.specs.Project.{Project, child, place}
use Rattle.meson_variables.specs.Expansion.{Slot, in_list, fixed, Mark, known, opaque, empty, Expansion, Stand, met, is_list_operand, expand_by, follow_single, expand}
use Rattle.meson_variables.specs.TargetSources.{or_option, source_item}
use Rattle.meson_variables.specs.Variables.{single}

-- the number of an item in its list
abbrev pub number_of_slot : Slot → Option ℕ
number_of_slot (in_list p n) = Some n
number_of_slot fixed = None

-- the items with their numbers, the number of opaque marks, the list of the first item that is in one, and the first empty list
pub record Tally : Type 0 where
  pub items : List SourceItem
  pub numbers : List (Option ℕ)
  pub unknown : ℕ
  pub list : Option CallRef
  pub vacant : Option CallRef

abbrev pub with_item : Tally → SourceItem → Option ℕ → Tally
with_item t i n = record { items = t.items ++ i ∷ []; numbers = t.numbers ++ n ∷ []; unknown = t.unknown; list = or_option t.list i.list; vacant = t.vacant }

abbrev pub tally_and : Tally → Mark Span → Tally
tally_and t (known i) = with_item t (source_item i) (number_of_slot i.slot)
tally_and t opaque = record { items = t.items; numbers = t.numbers; unknown = t.unknown + 1; list = t.list; vacant = t.vacant }
tally_and t (empty p) = record { items = t.items; numbers = t.numbers; unknown = t.unknown; list = t.list; vacant = or_option t.vacant (Some p) }

abbrev pub all_marked : Tally → List (Mark Span) → Tally
all_marked t [] = t
all_marked t (m ∷ ms) = all_marked (tally_and t m) ms

-- with the variables that were followed so far
pub record Gathered : Type 0 where
  pub tally : Tally
  pub followed : List (List ℕ)

abbrev pub expanded : Gathered → (List (List ℕ) → Expansion Span) → Gathered
expanded g more = record { tally = all_marked g.tally (more g.followed).marks; followed = (more g.followed).followed }

-- one more mark
abbrev pub with_mark : Gathered → Mark Span → Gathered
with_mark g m = record { tally = tally_and g.tally m; followed = g.followed }

abbrev pub no_marks : Gathered
no_marks = record { tally = record { items = []; numbers = []; unknown = 0; list = None; vacant = None }; followed = [] }

-- the variables that were followed, the last of them first
abbrev pub followed_names : Followed → List (List ℕ)
followed_names f = reverse (map (λ x. x.now) f.names.items)

-- what the code's marks mean
abbrev pub gathered : Marks → Gathered
gathered m = record {
  tally = record {
    items = m.items.items;
    numbers = m.numbers.items;
    unknown = length m.unknown.items;
    list = m.list;
    vacant = m.vacant;
  };
  followed = followed_names m.followed;
}

-- the code's marks get what an expansion meets after what was followed before
abbrev pub Meets : Marks → (List (List ℕ) → Expansion Span) → Marks → Type 0
Meets old more new = gathered new ≡ expanded (gathered old) more

-- ---- the place of an expression: the n-th child of a list at a path, or at the path itself and in no list

abbrev pub stand : ℕ → List ℕ → Option (List ℕ) → Option ℕ → Stand
stand file path variable None = record { place = place file path; slot = fixed; variable = variable }
stand file path variable (Some n) = record { place = child (place file path) n; slot = in_list (place file path) n; variable = variable }

-- a file, its source, and the variable that was followed
abbrev pub stand_at : Site → List ℕ → Option ℕ → Stand
stand_at s path slot = stand s.file path (option_map (λ x. x.now) s.variable) slot

-- what a variable gives that was not followed before
abbrev pub follow_of : {S : Type 0} → Project S → ℕ → List ℕ → List (List ℕ) → Expansion S
follow_of p zero x followed = met opaque followed
follow_of p (suc left) x followed = follow_single (expand p left) x followed (single p x)

-- ---- expansions if this number of variables may still be followed inside one another

abbrev pub expand_left : Project Span → ℕ → Expression Span → Stand → List (List ℕ) → Expansion Span
expand_left p left = expand_by (is_list_operand p) (follow_of p left)
