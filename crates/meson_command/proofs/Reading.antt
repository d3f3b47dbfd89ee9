-- What the getters of the matches read, and what is answered by it.
use Rattle.std.proofs.Common.{◌≡◌, ◌≢◌, ◌∙◌, ℕ, List, Option, Some, None, Result, Ok, Err, ap, sym, Bor}
use Rattle.std.specs.Prelude.{IfErr, IfOk, option_map, unwrap_or}

pub one_read : (o : Option (Bor (List ℕ))) (d r : Bor (List ℕ)) (x : Option (List ℕ)) → option_map (λ s. s.now) o ≡ x → r ≡ unwrap_or o d → r.now ≡ unwrap_or x d.now
one_read None d r x is given = ap (λ b. b.now) given ∙ ap (λ y. unwrap_or y d.now) is
one_read (Some s) d r x is given = ap (λ b. b.now) given ∙ ap (λ y. unwrap_or y d.now) is

pub answered : {A E : Type 0} (r x : Result A E) → r ≡ x → IfOk r (λ a. x ≡ Ok a)
answered (Ok a) x e = sym e
answered (Err fault) x e = tt

pub refused : {A E : Type 0} (none : E) (r x : Result A E) → r ≡ x → IfErr r (λ e. e ≢ none → x ≡ Err e)
refused none (Ok a) x e = tt
refused none (Err fault) x e = λ n. sym e
