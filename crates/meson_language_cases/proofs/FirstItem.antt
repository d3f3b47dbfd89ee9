-- The first item that an iterator gives is of its kind.
use Rattle.std.proofs.Common.{◌≡◌, List, ◌∷◌, ℕ, Option, Result, Some, Ok, IfOk, slice_range, sym, subst}
use Rattle.std.specs.Iterator.{YieldsFirst}
use Rattle.std.specs.List.{AllByRecursion}
use Rattle.meson_lex.specs.declared.kinds.Item.{Item}
use Rattle.meson_lex.specs.declared.kinds.Kind.{Kind}
use Rattle.meson_lex.specs.declared.fault.LexFault.{LexFault}
use Rattle.meson_lex.specs.Kinds.{OfKind}
use Rattle.meson_lex.specs.Lexed.{IsLexed, StandsIn}
use Rattle.meson_lex.proofs.Standing.{lexed_stand}

pub first_of_kind : (source : List ℕ) (results rest : List (Result Item LexFault)) (found : Option (Result Item LexFault)) (item : Item) (k : Kind) (token : List ℕ) → IsLexed 0 source results → YieldsFirst (λ (left : List (Result Item LexFault)). left) results found rest → found ≡ Some (Ok item) → token ≡ slice_range source item.span.from item.span.to → item.kind ≡ k → OfKind k token
first_of_kind source results rest found item k token lexed yields is token_is kind_is =
    let first : results ≡ Ok item ∷ rest = subst (λ o. YieldsFirst (λ (left : List (Result Item LexFault)). left) results o rest) is yields in
    let all = subst (AllByRecursion (λ r. IfOk r (StandsIn source))) first (lexed_stand source results lexed) in
    subst (OfKind k) (sym token_is) (subst (λ q. OfKind q (slice_range source item.span.from item.span.to)) kind_is all.0.0)
