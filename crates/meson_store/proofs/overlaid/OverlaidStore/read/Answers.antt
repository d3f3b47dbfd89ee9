use Rattle.std.proofs.Common.{◌∙◌, ◌+◌, ◌-◌, ◌^◌, ap, sym}
use Rattle.std.specs.Prelude.{min}
use Rattle.meson_store.proofs.FailuresOver.{counts-over, failed-over}
use Rattle.meson_store.proofs.TextsOver.{given, not-given}
use Rattle.meson_store.proofs.overlaid.OverlaidStore.read.Goals as goal

pub returns-in_ok-from_slice-in-Some-clause-value : goal.returns-in_ok-from_slice-in-Some-clause-value
returns-in_ok-from_slice-in-Some-clause-value g c =
    given c.args.self.now.texts.now c.args.name.now (g.S.Store.content c.args.self.now.store.now) c.in-Some.text _ (sym c.in-Some.ensures)
    (c.in_ok-from_slice-in-Some.ensures.items ∙ c.bytes.ensures)

pub returns-in-None-clause-value : goal.returns-in-None-clause-value
returns-in-None-clause-value g c =
    not-given c.args.self.now.texts.now c.args.name.now (λ bytes. bytes.items) (g.S.Store.content c.args.self.now.store.now) (sym c.in-None.ensures) c.read-read.result c.read-read.ensures.value

pub returns-in-None-clause-counts : goal.returns-in-None-clause-counts
returns-in-None-clause-counts g c =
    counts-over (g.S.Store.failures c.args.self.now.store.now) (g.S.Store.failures c.read-read.new.self) c.args.self.now.refused c.args.self.now.failures _
    c.args.self.now.no_other_failures c.args.self.now.fits (c.saturating_add-self-in-None.ensures ∙ ap (λ n. min (n + c.args.self.now.refused) (2 ^ 64 - 1)) c.failures.ensures) c.read-read.ensures.counts

pub returns-in-None-clause-failed : goal.returns-in-None-clause-failed
returns-in-None-clause-failed g c =
    failed-over (g.S.Store.failures c.args.self.now.store.now) (g.S.Store.failures c.read-read.new.self) c.args.self.now.refused c.args.self.now.failures _
    c.args.self.now.no_other_failures c.args.self.now.fits (c.saturating_add-self-in-None.ensures ∙ ap (λ n. min (n + c.args.self.now.refused) (2 ^ 64 - 1)) c.failures.ensures) c.args.self.now.failures_below c.read-read.result c.read-read.ensures.failed
