use Rattle.std.proofs.Common.{◌≡◌, ℕ, List, [], ◌∷◌, Ok, sym, refl, subst}
use Rattle.meson_lex.specs.declared.kinds.Kind.{Kind}
use Rattle.meson_lex.specs.declared.kinds.Kind.TheVariants.{OpenRound, CloseRound, OpenSquare, CloseSquare, OpenCurly, CloseCurly, Comma, Dot, Colon, Question}
use Rattle.meson_lex.specs.Scan.{front}
use Rattle.meson_lex.proofs.FrontComplete.{front_again}
use Rattle.meson_lex.proofs.marks.lone_mark.Goals as goal

-- what holds of one byte holds of the byte that is it
of_byte : (b n : ℕ) (kind : Kind) → b ≡ n → ((at : ℕ) (after : List ℕ) → front at (n ∷ after) ≡ Ok (kind, 1)) → (at : ℕ) (after : List ℕ) → front at (b ∷ after) ≡ Ok (kind, 1)
of_byte b n kind is each = subst (λ x. (at : ℕ) (after : List ℕ) → front at (x ∷ after) ≡ Ok (kind, 1)) (sym is) each

pub returns-in-40 : goal.returns-in-40
returns-in-40 c = of_byte c.args.b 40 OpenRound c.in-40.is (λ at after. front_again at OpenRound (40 ∷ []) after refl refl tt)

pub returns-in-41 : goal.returns-in-41
returns-in-41 c = of_byte c.args.b 41 CloseRound c.in-41.is (λ at after. front_again at CloseRound (41 ∷ []) after refl refl tt)

pub returns-in-91 : goal.returns-in-91
returns-in-91 c = of_byte c.args.b 91 OpenSquare c.in-91.is (λ at after. front_again at OpenSquare (91 ∷ []) after refl refl tt)

pub returns-in-93 : goal.returns-in-93
returns-in-93 c = of_byte c.args.b 93 CloseSquare c.in-93.is (λ at after. front_again at CloseSquare (93 ∷ []) after refl refl tt)

pub returns-in-123 : goal.returns-in-123
returns-in-123 c = of_byte c.args.b 123 OpenCurly c.in-123.is (λ at after. front_again at OpenCurly (123 ∷ []) after refl refl tt)

pub returns-in-125 : goal.returns-in-125
returns-in-125 c = of_byte c.args.b 125 CloseCurly c.in-125.is (λ at after. front_again at CloseCurly (125 ∷ []) after refl refl tt)

pub returns-in-44 : goal.returns-in-44
returns-in-44 c = of_byte c.args.b 44 Comma c.in-44.is (λ at after. front_again at Comma (44 ∷ []) after refl refl tt)

pub returns-in-46 : goal.returns-in-46
returns-in-46 c = of_byte c.args.b 46 Dot c.in-46.is (λ at after. front_again at Dot (46 ∷ []) after refl refl tt)

pub returns-in-58 : goal.returns-in-58
returns-in-58 c = of_byte c.args.b 58 Colon c.in-58.is (λ at after. front_again at Colon (58 ∷ []) after refl refl tt)

pub returns-in-63 : goal.returns-in-63
returns-in-63 c = of_byte c.args.b 63 Question c.in-63.is (λ at after. front_again at Question (63 ∷ []) after refl refl tt)
