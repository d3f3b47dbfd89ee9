use Rattle.std.proofs.Common.{◌≡◌, ◌≤◌, ◌∙◌, inl, inr, refl, sym, ap, subst, map, option_map, take, drop, string_bytes, arith}
use Rattle.std.proofs.lemmas.Result.{err_from_is_err_and}
use Rattle.meson_splice.specs.Files.{bytes_at}
use Rattle.meson_calls.specs.Loading.{name_of_file}
use Rattle.meson_gathering.specs.Gathering.{Told, Ending, Gathers, files_entered}
use Rattle.meson_gathering.specs.inside.Gathered.{IsNotEntered}
use Rattle.meson_gathering.specs.ReadCounts.{EntersEach, StopsEntering, unread_file}
use Rattle.meson_gathering.proofs.Asking.{looking_reads}
use Rattle.meson_gathering.proofs.Places.{not_entered, not_parsed}
use Rattle.meson_gathering.proofs.Stopping.{stops_within, looking_stops}
use Rattle.meson_gathering.proofs.gathering.look.Goals as goal

pub returns-clause-looked : goal.returns-clause-looked
returns-clause-looked g c =
    let files = c.args.files.now in
    let folder = option_map (λ f. f.now) c.args.folder in
    λ content is. record {
      names = map string_bytes c.in_ok-tree.field-0.names.items;
      enters = c.in_ok-tree.ensures.names;
      are_entered = ap (λ ns. files_entered content folder (map string_bytes ns) files) (sym c.as_slice.ensures.value) ∙ c.in_ok-enter_all.ensures.entered content is;
    }

pub returns-in_err-enter_all-clause-stopped : goal.returns-in_err-enter_all-clause-stopped
returns-in_err-enter_all-clause-stopped g c =
    let files = c.args.files.now in
    let place = c.args.place in
    let folder = option_map (λ f. f.now) c.args.folder in
    let held = g.S.Store.content c.args.store.now in
    let first = g.S.Store.failures c.args.store.now in
    let last = g.S.Store.failures c.enter_all.new.store in
    let names = map string_bytes c.in_ok-tree.field-0.names.items in
    let given = map string_bytes c.as_slice.result.now in
    let same : given ≡ names = ap (map string_bytes) c.as_slice.ensures.value in
    let P : Ending → Type 0 = λ end. Told held (λ content. IsNotEntered content folder given files end) in
    let Q : Ending → Type 0 = λ end. Told held (λ content. Gathers c.args.reading content folder (take place files) (drop place files) end) in
    let from : first ≤ first = omega arith in
    let p = err_from_is_err_and c.from_residual-in_err-enter_all.result c.from_residual-in_err-enter_all.ensures.1 in
    rw (p.1, p.2) (stops_within P Q (λ end p content is. not_entered c.args.reading content folder files place c.requires.within names c.in_ok-tree.ensures.names end (subst (λ ns. IsNotEntered content folder ns files end) same (p content is)))
    first first last from c.enter_all.ensures.counts c.in_err-enter_all.field-0.0 c.in_err-enter_all.ensures.stopped)

pub returns-in_err-tree-clause-stopped : goal.returns-in_err-tree-clause-stopped
returns-in_err-tree-clause-stopped g c =
    let files = c.args.files.now in
    let place = c.args.place in
    let folder = option_map (λ f. f.now) c.args.folder in
    let first = g.S.Store.failures c.args.store.now in
    let Q : Ending → Type 0 = λ end. Told (g.S.Store.content c.args.store.now) (λ content. Gathers c.args.reading content folder (take place files) (drop place files) end) in
    let p = err_from_is_err_and c.from_residual.result c.from_residual.ensures.1 in
    rw (p.1, p.2) (looking_stops Q first first (name_of_file place files) (bytes_at place files) (λ fault why told content is. not_parsed c.args.reading content folder files place c.requires.within fault why told) c.in_err-tree.field-0.0 c.in_err-tree.ensures.stopped)

pub returns-clause-asks : goal.returns-clause-asks
returns-clause-asks g c =
    let S = g.S.Store in
    let folder = option_map (λ f. f.now) c.args.folder in
    let names = map string_bytes c.in_ok-tree.field-0.names.items in (
      names,
      c.in_ok-tree.ensures.names,
      subst (λ ns. EntersEach (S.content c.args.store.now) folder c.args.files.now (S.reads c.args.store.now) ns c.enter_all.new.files (S.reads c.enter_all.new.store))
          (ap (map string_bytes) c.as_slice.ensures.value) c.in_ok-enter_all.ensures.asks,
    )

pub returns-in_err-enter_all-clause-asks_at_most : goal.returns-in_err-enter_all-clause-asks_at_most
returns-in_err-enter_all-clause-asks_at_most g c =
    let S = g.S.Store in
    let folder = option_map (λ f. f.now) c.args.folder in
    let names = map string_bytes c.in_ok-tree.field-0.names.items in
    let p = err_from_is_err_and c.from_residual-in_err-enter_all.result c.from_residual-in_err-enter_all.ensures.1 in
    rw (p.1, p.2) (inr (
      c.requires.within,
      names,
      c.in_ok-tree.ensures.names,
      subst (λ ns. StopsEntering (S.content c.args.store.now) folder c.args.files.now (S.reads c.args.store.now) ns (S.reads c.enter_all.new.store) (unread_file c.in_err-enter_all.field-0.0))
          (ap (map string_bytes) c.as_slice.ensures.value) c.in_err-enter_all.ensures.asks_at_most,
    ))

pub returns-in_err-tree-clause-asks_at_most : goal.returns-in_err-tree-clause-asks_at_most
returns-in_err-tree-clause-asks_at_most g c =
    let p = err_from_is_err_and c.from_residual.result c.from_residual.ensures.1 in
    let files = c.args.files.now in
    let place = c.args.place in
    rw (p.1, p.2) (inl (refl, looking_reads (name_of_file place files) (bytes_at place files) c.in_err-tree.field-0.0 c.in_err-tree.ensures.stopped))
