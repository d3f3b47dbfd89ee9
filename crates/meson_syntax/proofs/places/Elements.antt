-- The tokens of a list and of its elements.
use Rattle.std.proofs.Common.{◌≡◌, ℕ, Bool, false, List, [], ◌∷◌, ◌++◌, map, Some, refl, ap, ◌∙◌, append_assoc}
use Rattle.meson_lex.specs.declared.kinds.Span.{Span}
use Rattle.meson_lex.specs.Located.{Token, words}
use Rattle.meson_syntax.specs.declared.operator.Bracket.{Bracket}
use Rattle.meson_syntax.specs.Operators.{opens, closes}
use Rattle.meson_syntax.specs.Tree.{Listing, listing, Argument, is_named, Arguments, no_arguments, argument}
use Rattle.meson_syntax.specs.Grammar.{comma_words, argument_words}
use Rattle.meson_syntax.specs.Spelling.{Covers, One, SpellsListing, SpellsArguments, SpellsArgument}
use Rattle.meson_syntax.specs.Paths.{list_span, inner_words, ElementAt, elements_at, element_at}
use Rattle.meson_syntax.proofs.parsing.Words.{then-words, comma-words, argument-words, arguments-words}
use Rattle.meson_syntax.proofs.paths.Every.{Every, every-nth}
use Rattle.meson_syntax.proofs.places.Pairs.{join-words}

-- the tokens of an element, where those between the brackets of its list are ts
pub record ElementSpelled (b : Bracket) (d : ℕ) (ts : List Token) (e : ElementAt Span) : Type 0 where
  pub seen : Bool
  pub front : List Token
  pub own : List Token
  pub back : List Token
  pub parts : ts ≡ front ++ (own ++ back)
  pub is_front : words front ≡ e.before
  pub is_back : words back ≡ e.behind
  pub spelled : SpellsArgument e.element b seen d own

pub push-group : {A : Type 0} (a b c d : List A) → a ++ (b ++ (c ++ d)) ≡ (a ++ (b ++ c)) ++ d
push-group a b c d = simp append_assoc

abbrev later : Argument Span → Arguments Span → Bool → ElementAt Span → ElementAt Span
later a more trailing p = record { element = p.element; before = argument_words a ++ (comma_words more trailing ++ p.before); behind = p.behind }

every-later : (a : Argument Span) (more : Arguments Span) (trailing : Bool) (b : Bracket) (d : ℕ) (ts front comma back : List Token) → ts ≡ front ++ (comma ++ back) → words front ≡ argument_words a
    → words comma ≡ comma_words more trailing → (es : List (ElementAt Span)) → Every (ElementSpelled b d back) es → Every (ElementSpelled b d ts) (map (later a more trailing) es)
every-later a more trailing b d ts front comma back parts f c [] h = tt
every-later a more trailing b d ts front comma back parts f c (e ∷ es) h =
    let x = h.0 in (
      record {
        seen = x.seen;
        front = front ++ (comma ++ x.front);
        own = x.own;
        back = x.back;
        parts = parts ∙ ap (λ z. front ++ (comma ++ z)) x.parts ∙ push-group front comma x.front (x.own ++ x.back);
        is_front = join-words front (comma ++ x.front) (argument_words a) (comma_words more trailing ++ e.before) f (join-words comma x.front (comma_words more trailing) e.before c x.is_front);
        is_back = x.is_back;
        spelled = x.spelled;
      },
      every-later a more trailing b d ts front comma back parts f c es h.1,
    )

pub elements-spelled : (list : Arguments Span) (trailing : Bool) (b : Bracket) (seen : Bool) (d : ℕ) (ts : List Token) → SpellsArguments list trailing b seen d ts
    → Every (ElementSpelled b d ts) (elements_at list trailing)
elements-spelled no_arguments trailing b seen d ts h = tt
elements-spelled (argument a more) trailing b seen d ts h =
    let q = h.second in
    let here = argument-words a b seen d h.front h.first in
    let comma = comma-words more trailing q.front q.first in (
      record {
        seen = seen;
        front = [];
        own = h.front;
        back = h.back;
        parts = h.joined;
        is_front = refl;
        is_back = then-words _ _ h.back _ _ q comma (arguments-words more trailing b (is_named a) d q.back q.second);
        spelled = h.first;
      },
      every-later a more trailing b d ts h.front q.front q.back (h.joined ∙ ap (λ z. h.front ++ z) q.joined) here comma (elements_at more trailing)
          (elements-spelled more trailing b (is_named a) d q.back q.second),
    )

-- The tokens of a list, from bracket to bracket.
pub record ListSpelled (l : Listing Span) (b : Bracket) (d : ℕ) (ts : List Token) : Type 0 where
  pub opening : List Token
  pub inner : List Token
  pub closing : List Token
  pub brackets : ts ≡ opening ++ (inner ++ closing)
  pub covers : Covers (list_span l) ts
  pub is_opening : One (opens b) opening
  pub is_closing : One (closes b) closing
  pub is_inner : words inner ≡ inner_words l
  pub elements : (n : ℕ) (e : ElementAt Span) → element_at l n ≡ Some e → ElementSpelled b d inner e

pub list-spelled : (l : Listing Span) (b : Bracket) (d : ℕ) (ts : List Token) → SpellsListing l b d ts → ListSpelled l b d ts
list-spelled (listing s trailing list) b d ts h =
    let p = h.3 in
    let q = p.second in
    record {
      opening = p.front;
      inner = q.front;
      closing = q.back;
      brackets = p.joined ∙ ap (λ z. p.front ++ z) q.joined;
      covers = h.0;
      is_opening = p.first;
      is_closing = q.second;
      is_inner = arguments-words list trailing b false d q.front q.first;
      elements = λ n e found. every-nth (ElementSpelled b d q.front) (elements_at list trailing) n e (elements-spelled list trailing b false d q.front q.first) found;
    }
