-- `kroot::kroot_judge` meets its contract: each return is the case of its checks.
use mathlib.Core.Path.{◌≡◌, sym, ap, ◌∙◌}
use mathlib.Core.Bool.{true}
use Prim.Native.Nat.{ℕ, ◌+◌, ◌*◌, ◌<◌, ◌≤◌}
use native.Mathlib.Omega.{arith}
use Rattle.kroot.proofs.Parameters.{least_bound, least_fits}
use Rattle.laws.specs.Lists.{part}
use Rattle.rules.specs.PublicKeys.{key_held, key_type, signature_length}
use Rattle.rules.specs.Kroot as S
use Rattle.rules.proofs.Bounds.{pkid_bound, key_width_bound}
use Rattle.public_keys.proofs.Keys.{signature_bound}
use Rattle.kroot.proofs.Judged.{no_key, bad_parameters, wrong_size, taken}
use Rattle.kroot.proofs.kroot_judge.Goals as goal
use Rattle.kroot.proofs.kroot_judge.Goals.{After-key_held, After-key_width-width, After-least_blocks, After-parameters_bad, After-pkid-id, After-signature_length-signed, Else-not-key_held}

held-is : (c : After-key_held) → key_held c.args.pubkeys.now (S.pkid_of c.args.d.now) ≡ c.key_held.result
held-is c = rw (← c.pkid-id.ensures) (sym c.key_held.ensures)

held : (c : Else-not-key_held) → key_held c.args.pubkeys.now (S.pkid_of c.args.d.now) ≡ true
held c = rw (← c.pkid-id.ensures) (sym c.key_held.ensures) ∙ c.if-not-key_held.false

bad-is : (c : After-parameters_bad)
    → S.parameters_bad c.args.config.now (S.contents_of c.args.d.now) ≡ c.parameters_bad.result
unfolding S.contents_of part
bad-is c = sym c.parameters_bad.ensures

-- the key's width, the signature's length and the bytes of the blocks, as the definition has them
width_is : (c : After-key_width-width)
    → c.key_width-width.result ≡ S.key_width (S.ks_of (S.contents_of c.args.d.now))
unfolding S.contents_of part
width_is c = c.key_width-width.ensures ∙ ap S.key_width c.ks.ensures

signed_is : (c : After-signature_length-signed)
    → c.signature_length-signed.result ≡ signature_length (key_type c.args.pubkeys.now (S.pkid_of c.args.d.now))
signed_is c =
    let pubkeys = c.args.pubkeys.now in
    c.signature_length-signed.ensures ∙ ap signature_length (c.key_type.ensures ∙ ap (λ (i : ℕ). key_type pubkeys i) c.pkid-id.ensures)

-- the widths are in range
bounds : (c : After-signature_length-signed) → (c.key_width-width.result ≤ 32) × (c.signature_length-signed.result ≤ 132)
bounds c =
    (omega (arith, c.key_width-width.ensures, key_width_bound c.ks.result), omega (arith, c.signature_length-signed.ensures, signature_bound c.key_type.result))

size_is : (c : After-least_blocks)
    → 13 * c.least_blocks.result ≡ 13 * S.kroot_blocks (S.key_width (S.ks_of (S.contents_of c.args.d.now))) (key_type c.args.pubkeys.now (S.pkid_of c.args.d.now))
unfolding S.kroot_blocks S.contents_of part
size_is c =
    let pubkeys = c.args.pubkeys.now in
    let signed : c.signature_length-signed.result ≡ signature_length (key_type pubkeys (S.pkid_of c.args.d.now)) =
    c.signature_length-signed.ensures ∙ ap signature_length (c.key_type.ensures ∙ ap (λ (i : ℕ). key_type pubkeys i) c.pkid-id.ensures) in
    let width : c.key_width-width.result ≡ S.key_width (S.ks_of (S.contents_of c.args.d.now)) =
    c.key_width-width.ensures ∙ ap S.key_width c.ks.ensures in
    rw (c.least_blocks.ensures, signed, width)

id-small : (c : After-pkid-id) → c.pkid-id.result < 16
id-small c = omega (arith, c.pkid-id.ensures, pkid_bound c.args.d.now)

pub key_held-requires : goal.key_held-requires
key_held-requires c = omega (arith, id-small (goal.at.key_held-requires c).After-pkid-id)

pub returns-then-not-key_held : goal.returns-then-not-key_held
returns-then-not-key_held c = no_key _ _ _ _ _ (held-is (goal.at.returns-then-not-key_held c).After-key_held ∙ c.if-not-key_held.true)

pub returns-then-parameters_bad : goal.returns-then-parameters_bad
returns-then-parameters_bad c = bad_parameters _ _ _ _ _ (held (goal.at.returns-then-parameters_bad c).Else-not-key_held) (bad-is (goal.at.returns-then-parameters_bad c).After-parameters_bad ∙ c.if-parameters_bad.true)

pub key_type-requires : goal.key_type-requires
key_type-requires c = omega (arith, id-small (goal.at.key_type-requires c).After-pkid-id)

pub overflow_add-width : goal.overflow_add-width
overflow_add-width c = omega (arith, bounds (goal.at.overflow_add-width c).After-signature_length-signed)

pub overflow_add-width-2 : goal.overflow_add-width-2
overflow_add-width-2 c = omega (arith, bounds (goal.at.overflow_add-width-2 c).After-signature_length-signed)

pub least_blocks-requires : goal.least_blocks-requires
least_blocks-requires c = omega (arith, bounds (goal.at.least_blocks-requires c).After-signature_length-signed)

pub overflow_mul-least_blocks : goal.overflow_mul-least_blocks
overflow_mul-least_blocks c =
    omega (arith, bounds (goal.at.overflow_mul-least_blocks c).After-signature_length-signed, c.least_blocks.ensures, least_bound (13 + c.key_width-width.result + c.signature_length-signed.result))

pub returns-then-d-least_blocks : goal.returns-then-d-least_blocks
returns-then-d-least_blocks c =
    wrong_size _ _ _ _ _ (held (goal.at.returns-then-d-least_blocks c).Else-not-key_held) (bad-is (goal.at.returns-then-d-least_blocks c).After-parameters_bad ∙ c.if-parameters_bad.false) (λ e. c.if-d-least_blocks.true (e ∙ sym (size_is (goal.at.returns-then-d-least_blocks c).After-least_blocks)))

pub store_offer-requires : goal.store_offer-requires
store_offer-requires c =
    let w = c.key_width-width.result in
    let k = c.signature_length-signed.result in
    (omega (arith, bounds (goal.at.store_offer-requires c).After-signature_length-signed), (omega (arith, bounds (goal.at.store_offer-requires c).After-signature_length-signed), omega (arith, c.if-d-least_blocks.false, c.least_blocks.ensures, least_fits (13 + w + k))))

pub returns : goal.returns
unfolding S.signed_message S.signature_of
returns c =
    taken _ _ _ _ _ (held (goal.at.returns c).Else-not-key_held) (bad-is (goal.at.returns c).After-parameters_bad ∙ c.if-parameters_bad.false) _ (c.if-d-least_blocks.false ∙ size_is (goal.at.returns c).After-least_blocks)
    (c.store_offer.ensures ∙ rw (c.pkid-id.ensures, signed_is (goal.at.returns c).After-signature_length-signed, width_is (goal.at.returns c).After-key_width-width))
