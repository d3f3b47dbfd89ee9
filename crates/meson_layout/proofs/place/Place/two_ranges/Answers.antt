use Rattle.std.proofs.Common.{◌≡◌, ◌+◌, [], ◌∷◌, ◌++◌, IfOk, length, take, drop, ap, ap₂, refl, sym, subst, ◌∙◌}
use Rattle.std.proofs.lemmas.List.{take_rest}
use Rattle.meson_lex.specs.Items.{joined}
use Rattle.meson_layout.specs.Looks.{but_last, last_few}
use Rattle.meson_layout.specs.Removal.{gone}
use Rattle.meson_layout.proofs.Ranges.{two_ranges_splices}
use Rattle.meson_layout.proofs.place.Place.two_ranges.Goals as goal

pub returns-clause-done : goal.returns-clause-done
returns-clause-done c =
    let s = c.args.self in
    let file = s.file.now in
    let left = s.left.now in
    let mid = c.args.mid.now in
    let g = c.grown-before.result in
    let h = c.grown-behind.result in
    let between = but_last h.before mid in
    let was = joined (last_few g.before left) ++ (joined s.own.now ++ joined (take g.behind between)) in
    let other = joined (last_few h.before mid) ++ (joined c.args.other.now ++ joined (take h.behind s.right.now)) in
    let far : c.text_len-at.result + c.text_len.result ≡ length (joined (but_last g.before left)) + length (joined (drop g.behind between)) =
    ap₂ (λ a b. a + b) c.text_len-at.ensures (c.text_len.ensures ∙ ap (λ xs. length (joined xs)) (take_rest between g.behind)) in
    let first : c.in_ok-first.first ≡ gone file (length (joined (but_last g.before left))) was = c.in_ok-first.ensures.done ∙ ap (λ at. gone file at was) c.text_len-at.ensures in
    let second : c.in_ok-second.second ≡ gone file (length (joined (but_last g.before left)) + length (joined (drop g.behind between))) other =
    c.in_ok-second.ensures.done ∙ ap (λ at. gone file at other) far in
    let all = two_ranges_splices file left s.own.now mid c.args.other.now s.right.now between g h c.grown-behind.ensures.value refl c.grown-before.ensures.value in
    subst (λ l. IfOk c.two_splices.result (λ v. v.items ≡ l)) (ap₂ (λ a b. a ∷ b ∷ []) first second ∙ sym all) c.two_splices.ensures.done
