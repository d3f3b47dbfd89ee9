-- The elements that the code looks for, and their values.
use Rattle.std.specs.Prelude.{ℕ, Bool, List}
use Rattle.meson_lex.specs.declared.kinds.Span.{Span}
use Rattle.meson_syntax.specs.Tree.{Argument}
use Rattle.meson_places.specs.declared.elements.Wanted.{Wanted}
use Rattle.meson_places.specs.declared.elements.Wanted.TheVariants as wanted
use Rattle.meson_syntax.specs.View.{expr_view}
use Rattle.meson_places.specs.declared.slots.ChildValue.{ChildValue}
use Rattle.meson_places.specs.Slots.{Child, has_key, has_name, has_no_name}

abbrev pub is_wanted : {S : Type 0} → Wanted → Argument S → Bool
is_wanted wanted.Unnamed x = has_no_name x
is_wanted (wanted.Name key) x = has_name key.now x
is_wanted (wanted.Entry key) x = has_key key.now x

abbrev pub child_view : List ℕ → ChildValue → Child Span
child_view source c = record { number = c.number; value = expr_view source c.value.now }
