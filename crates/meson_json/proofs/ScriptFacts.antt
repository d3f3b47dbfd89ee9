-- A loop over the entries of a script.
use Rattle.std.proofs.Common.{◌≡◌, ℕ, suc, ◌+◌, ◌<◌, ◌≤◌, true, false, List, [], ◌∷◌, ◌++◌, length, drop, get_or, Result, Ok, Err, refl, sym, ap, arith, add-one, append_assoc, append-nil}
use Rattle.std.specs.Prelude.{nat_lt}
use Rattle.std.proofs.Math.Seq.{drop-cons, drop-length}
use Rattle.std.proofs.lemmas.Bool.Decides.{nat_tests}
use Rattle.serde_json.specs.Events.{items_len}
use Rattle.serde_json.specs.View.{view, items_view}
use Rattle.serde_json.specs.declared.value.Value.{Value}
use Rattle.serde_json.proofs.Views.{items_len-items_view}
use Rattle.meson_splice.specs.Patch.{then_ok}
use Rattle.meson_json.specs.Scripts.{entry_by, entries_of, max_commands}
use Rattle.meson_json.specs.declared.member_check.UnknownMembers.{UnknownMembers}
use Rattle.meson_steps.specs.declared.command.Command.{Command}
use Rattle.meson_json.specs.declared.fault.ScriptFault.{ScriptFault}

-- the commands that are done, before those to come
abbrev pub after_done : List Command → Result (List Command) ScriptFault → Result (List Command) ScriptFault
after_done done r = then_ok r (λ rest. Ok (done ++ rest))

onto : (done : List Command) (c : Command) (r : Result (List Command) ScriptFault) → after_done done (then_ok r (λ cs. Ok (c ∷ cs))) ≡ after_done (done ++ c ∷ []) r
onto done c (Err e) = refl
onto done c (Ok rest) = ap (λ t. Ok t) (sym (append_assoc done (c ∷ []) rest))

pub entries-more : (u : UnknownMembers) (vs : List Value) (i : ℕ) (done : List Command) (v : Value) (c : Command) → i < length vs → v ≡ get_or vs i v → entry_by u i (view v) ≡ Ok c
    → after_done done (entries_of u i (items_view (drop i vs))) ≡ after_done (done ++ c ∷ []) (entries_of u (i + 1) (items_view (drop (i + 1) vs)))
unfolding entries_of
entries-more u vs i done v c h is gives = rw (drop-cons vs i v, ← is, gives, add-one) (onto done c (entries_of u (suc i) (items_view (drop (suc i) vs))))

pub entries-refused : (u : UnknownMembers) (vs : List Value) (i : ℕ) (done : List Command) (v : Value) (e : ScriptFault) → i < length vs → v ≡ get_or vs i v → entry_by u i (view v) ≡ Err e
    → after_done done (entries_of u i (items_view (drop i vs))) ≡ Err e
unfolding entries_of
entries-refused u vs i done v e h is gives = rw (drop-cons vs i v, ← is, gives) refl

pub entries-all : (u : UnknownMembers) (vs : List Value) (i : ℕ) (done : List Command) → length vs ≡ i → after_done done (entries_of u i (items_view (drop i vs))) ≡ Ok done
unfolding entries_of
entries-all u vs i done h = rw (← h, drop-length vs, append-nil) refl

pub too_many : (vs : List Value) → 4096 < length vs → nat_lt max_commands (items_len (items_view vs)) ≡ true
too_many vs h = rw (items_len-items_view vs) (grind (arith, nat_tests))

pub few : (vs : List Value) → length vs ≤ 4096 → nat_lt max_commands (items_len (items_view vs)) ≡ false
few vs h = rw (items_len-items_view vs) (grind (arith, nat_tests))
