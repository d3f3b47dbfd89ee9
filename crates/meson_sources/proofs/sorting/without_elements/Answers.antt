use Rattle.meson_lex.specs.declared.kinds.Span.{Span}
use Rattle.meson_syntax.specs.Tree.{Argument}
use Rattle.meson_steps.specs.OrderedLists.{first_of, sort_keys}
use Rattle.meson_sources.proofs.sorting.without_elements.Goals as goal
use Rattle.meson_sources.proofs.Words.{List, [], drop, refl, ap, suc, sym, zero, ℕ, ◌∙◌, ◌≡◌, option_map}

none_left : (n : ℕ) → let none : List (Argument Span) = [] in drop n none ≡ []
none_left zero = refl
none_left (suc n) = refl

pub returns : goal.returns
returns c = λ source.
    let left = none_left c.args.from in
    record {
      from = refl;
      end = refl;
      keys = c.new.ensures.items ∙ sym (ap sort_keys left);
      first = sym (ap (λ l. option_map (λ w. w.bytes) (first_of source l)) left);
    }
