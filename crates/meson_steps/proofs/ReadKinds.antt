-- The kinds of the items that a lexer gives.
use Rattle.meson_steps.proofs.Words.{◌≡◌, ℕ, List, [], ◌∷◌, map, Result, Ok, Err, refl, ap, ◌∙◌, IsItemList, Lexeme, IsLexed, LexFault, Item, Kind, read}
use Rattle.meson_steps.proofs.Words.{read-all}

abbrev pub given_kinds : List (Result Item LexFault) → List Kind
given_kinds [] = []
given_kinds (Ok x ∷ more) = x.kind ∷ given_kinds more
given_kinds (Err fault ∷ more) = given_kinds more

of_read : (source : List ℕ) (results : List (Result Item LexFault)) → given_kinds results ≡ map (λ (x : Lexeme). x.kind) (read source results)
of_read source [] = refl
of_read source (Ok x ∷ more) = ap (λ ks. x.kind ∷ ks) (of_read source more)
of_read source (Err fault ∷ more) = of_read source more

pub kinds_read : (source : List ℕ) (results : List (Result Item LexFault)) (xs : List Lexeme) → IsLexed 0 source results → IsItemList source xs → given_kinds results ≡ map (λ (x : Lexeme). x.kind) xs
kinds_read source results xs lexed list = of_read source results ∙ ap (map (λ (x : Lexeme). x.kind)) (read-all source results xs lexed list)
