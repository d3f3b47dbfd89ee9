-- Texts without comments and continuations, which begin and end with a token; lists of one element.
use Rattle.std.specs.Prelude.{◌≡◌, ℕ, Bool, true, false, not, ◌&&◌, List, [], ◌∷◌, map, reverse}
use Rattle.std.specs.List.{list_all}
use Rattle.meson_lex.specs.declared.kinds.Kind.{Kind}
use Rattle.meson_lex.specs.Items.{IsItemList, Lexeme}
use Rattle.meson_lex.specs.Significant.{role}
use Rattle.meson_lex.specs.Words.{speaks}
use Rattle.meson_layout.specs.Words.{is_remark}
use Rattle.meson_syntax.specs.Tree.{Listing, listing, Argument, plain, named, pair}
use Rattle.meson_edit.specs.Edits.{elements}

abbrev pub speaks_first : List Kind → Bool
speaks_first [] = false
speaks_first (k ∷ ks) = speaks (role k)

abbrev pub has_token_ends : List Kind → Bool
has_token_ends ks = speaks_first ks && speaks_first (reverse ks)

abbrev pub is_quiet : List Kind → Bool
is_quiet ks = list_all (λ k. not (is_remark k)) ks

abbrev pub is_bare : List Kind → Bool
is_bare ks = is_quiet ks && has_token_ends ks

-- one element without a name and without a key, and no comma after it
abbrev pub is_plain : {S : Type 0} → Argument S → Bool
is_plain (plain e) = true
is_plain (named s x e) = false
is_plain (pair s k v) = false

abbrev pub one_plain : {S : Type 0} → List (Argument S) → Bool
one_plain [] = false
one_plain (a ∷ []) = is_plain a
one_plain (a ∷ b ∷ more) = false

abbrev pub has_trailing : {S : Type 0} → Listing S → Bool
has_trailing (listing s trailing list) = trailing

abbrev pub is_lone : {S : Type 0} → Listing S → Bool
is_lone l = one_plain (elements l) && not (has_trailing l)

-- the kinds of the items of a text, if it has an item list
abbrev pub AreKinds : (bytes : List ℕ) → List Kind → Type 0
AreKinds bytes ks = (xs : List Lexeme) → IsItemList bytes xs → ks ≡ map (λ x. x.kind) xs
