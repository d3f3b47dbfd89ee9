-- The elements of a list among the items of its text, by their words.
use Rattle.meson_edit.proofs.Words.{◌≡◌, ℕ, Bool, List, [], ◌∷◌, ◌++◌, map, Some, refl, ap, subst, ◌∙◌, Token, words, Span, comma_words, argument_words}
use Rattle.meson_edit.proofs.Words.{arguments_words, ListIn, list_in, inner_words, ElementAt, elements_at, element_at, SpellsExpression, SpellsListing}
use Rattle.meson_edit.proofs.Words.{Expression, array, dictionary, call, Listing, listing, Argument, Arguments, no_arguments, argument, some-injective}
use Rattle.meson_edit.proofs.Words.{name-words, Every, every-nth, push-group}

-- The tokens of the list of an array, a dictionary or a call.
pub record ListInside (l : ListIn Span) (d : ℕ) (ts : List Token) : Type 0 where
  pub front : List Token
  pub own : List Token
  pub parts : ts ≡ front ++ own
  pub is_front : words front ≡ l.ahead
  pub spelled : SpellsListing l.list l.bracket d own

pub list-inside : (x : Expression Span) (l : ListIn Span) (d : ℕ) (ts : List Token) → list_in x ≡ Some l → SpellsExpression x d ts → ListInside l d ts
list-inside (array m) l d ts h sp = subst (λ l. ListInside l d ts) (some-injective _ _ h) (record { front = []; own = ts; parts = refl; is_front = refl; spelled = sp })
list-inside (dictionary m) l d ts h sp = subst (λ l. ListInside l d ts) (some-injective _ _ h) (record { front = []; own = ts; parts = refl; is_front = refl; spelled = sp })
list-inside (call s x m) l d ts h sp =
    let p = sp.1 in
    subst (λ l. ListInside l d ts) (some-injective _ _ h) (record { front = p.front; own = p.back; parts = p.joined; is_front = name-words x p.front p.first; spelled = p.second })
list-inside _ l d ts h sp = absurd cc

-- ---- the words of an element and those around it are the words of its list

pub record ElementWords (S : Type 0) (list : Arguments S) (trailing : Bool) (e : ElementAt S) : Type 0 where
  pub all : arguments_words list trailing ≡ e.before ++ (argument_words e.element ++ e.behind)

words-later : (S : Type 0) (a : Argument S) (more : Arguments S) (trailing : Bool) (es : List (ElementAt S)) → Every (ElementWords S more trailing) es
    → Every (ElementWords S (argument a more) trailing) (map (λ p. record { element = p.element; before = argument_words a ++ (comma_words more trailing ++ p.before); behind = p.behind }) es)
words-later S a more trailing [] h = tt
words-later S a more trailing (e ∷ es) h = (
  record { all = ap (λ z. argument_words a ++ (comma_words more trailing ++ z)) h.0.all ∙ push-group (argument_words a) (comma_words more trailing) e.before (argument_words e.element ++ e.behind) },
  words-later S a more trailing es h.1,
)

elements-words : (S : Type 0) (list : Arguments S) (trailing : Bool) → Every (ElementWords S list trailing) (elements_at list trailing)
elements-words S no_arguments trailing = tt
elements-words S (argument a more) trailing = (record { all = refl }, words-later S a more trailing (elements_at more trailing) (elements-words S more trailing))

pub element-words : (S : Type 0) (l : Listing S) (n : ℕ) (e : ElementAt S) → element_at l n ≡ Some e → inner_words l ≡ e.before ++ (argument_words e.element ++ e.behind)
element-words S (listing s trailing list) n e h = let w = every-nth (ElementWords S list trailing) (elements_at list trailing) n e (elements-words S list trailing) h in w.all
