use Rattle.meson_sources.proofs.removing.is_before.Goals as goal
use Rattle.std.specs.Cmp.Lexicographic.{pointwise}
use Rattle.meson_sources.proofs.Words.{nat_eq, nat_lt, ◌&&◌, ap, sym, true, ◌∙◌, ◌≡◌, eq-eqb, is_path}
use Rattle.meson_sources.proofs.gone.Spots.{pointwise_is}

pub returns-then-eq : goal.returns-then-eq
returns-then-eq c =
    let spot = c.args.spot.now in
    let list = c.args.list in
    let before = nat_lt spot.number c.args.number in
    let test = c.eq.ensures ∙ ap (λ l. pointwise nat_eq l list.path.now) c.as_slice.ensures.value ∙ pointwise_is spot.list.items list.path.now in
    let is : is_path spot.list.items list.path.now ≡ true = sym test ∙ c.if-eq.true in
    ap (λ b. b && before) (sym is) ∙ ap (λ b. b && (is_path spot.list.items list.path.now && before)) (sym (eq-eqb spot.file list.file c.if-spot-list.true))

pub returns-else-eq : goal.returns-else-eq
returns-else-eq c =
    let spot = c.args.spot.now in
    let list = c.args.list in
    let before = nat_lt spot.number c.args.number in
    let test = c.eq.ensures ∙ ap (λ l. pointwise nat_eq l list.path.now) c.as_slice.ensures.value ∙ pointwise_is spot.list.items list.path.now in
    c.if-eq.false ∙ ap (λ b. b && before) (sym c.if-eq.false ∙ test) ∙ ap (λ b. b && (is_path spot.list.items list.path.now && before)) (sym (eq-eqb spot.file list.file c.if-spot-list.true))
