use Rattle.std.proofs.Common.{◌<◌, ◌^◌, length, sym, ap, subst, ◌∙◌, arith}
use Rattle.std.specs.Prelude.{Some, option_and_then}
use Rattle.meson_splice.specs.Files.{bytes_at}
use Rattle.meson_syntax.specs.Grammar.{expression_words}
use Rattle.meson_syntax.specs.Paths.{expression_on_path}
use Rattle.meson_syntax.specs.View.{expr_view}
use Rattle.meson_calls.specs.Strings.{AreGood}
use Rattle.meson_calls.proofs.Loads.{as_many}
use Rattle.meson_calls.proofs.Standing.{nth_past, nth_there}
use Rattle.meson_following.proofs.Values.{value_few, value_good}
use Rattle.meson_following.proofs.follower.Follower.value_at.Goals as goal

pub bytes-requires : goal.bytes-requires
bytes-requires c =
    let e = c.if-place-self.false in
    let many = as_many c.args.self.now.files.now c.args.self.now.trees.now c.requires.parsed in
    omega (arith, e, many)

pub returns-then-place-self-clause-value : goal.returns-then-place-self-clause-value
returns-then-place-self-clause-value c =
    let f = c.args.self.now in
    let q = c.args.place.now in
    let e = c.if-place-self.true in
    sym (ap (option_and_then (λ g. expression_on_path g.tree q.path.steps)) (nth_past f.files.now f.trees.now q.file (omega (arith, e))))

pub returns-in-Some-clause-value : goal.returns-in-Some-clause-value
returns-in-Some-clause-value c =
    let f = c.args.self.now in
    let q = c.args.place.now in
    let e = c.if-place-self.false in
    let many = as_many f.files.now f.trees.now c.requires.parsed in
    let bytes = bytes_at q.file f.files.now in
    ap (λ source. Some (expr_view source c.in-Some.expr.now)) c.bytes.ensures
    ∙ c.in-Some.ensures bytes
    ∙ sym (ap (option_and_then (λ g. expression_on_path g.tree q.path.steps)) (nth_there f.files.now f.trees.now q.file c.index-self-place.result many (omega (arith, e))))

pub returns-in-Some-clause-good : goal.returns-in-Some-clause-good
returns-in-Some-clause-good c =
    let f = c.args.self.now in
    let q = c.args.place.now in
    let e = c.if-place-self.false in
    let bytes = bytes_at q.file f.files.now in
    subst (λ source. AreGood (expression_words (expr_view source c.in-Some.expr.now))) (sym c.bytes.ensures)
    (value_good f.files.now f.trees.now q.file c.index-self-place.result q.path.steps (expr_view bytes c.in-Some.expr.now) (omega (arith, e)) c.requires.parsed
    (c.in-Some.ensures bytes))

pub returns-in-Some-clause-fits : goal.returns-in-Some-clause-fits
returns-in-Some-clause-fits c =
    let f = c.args.self.now in
    let q = c.args.place.now in
    let e = c.if-place-self.false in
    let bytes = bytes_at q.file f.files.now in
    subst (λ source. length (expression_words (expr_view source c.in-Some.expr.now)) < 2 ^ 64) (sym c.bytes.ensures)
    (value_few f.files.now f.trees.now q.file c.index-self-place.result q.path.steps (expr_view bytes c.in-Some.expr.now) (omega (arith, e)) c.requires.parsed
    (c.in-Some.ensures bytes))

pub returns-in-None-clause-value : goal.returns-in-None-clause-value
returns-in-None-clause-value c =
    let f = c.args.self.now in
    let q = c.args.place.now in
    let e = c.if-place-self.false in
    let many = as_many f.files.now f.trees.now c.requires.parsed in
    let bytes = bytes_at q.file f.files.now in
    c.in-None.ensures bytes
    ∙ sym (ap (option_and_then (λ g. expression_on_path g.tree q.path.steps)) (nth_there f.files.now f.trees.now q.file c.index-self-place.result many (omega (arith, e))))
