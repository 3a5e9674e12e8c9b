-- `mac::put_hmac` meets its contract: two pieces are put after each other into zeros.
use mathlib.Core.Path.{◌≡◌, ap, ◌∙◌}
use lib.ListN.{length, replicate}
use borrow.Author.Rules.{rules}
use Rattle.mac.proofs.HmacBytes.{put_is}
use Rattle.mac.proofs.put_hmac.Goals as goal

pub returns : goal.returns
returns c =
    let i = c.copy_from_slice.ensures.after in
    let o = c.copy_from_slice-2.ensures.after in
    let li : length c.bytes.result ≡ 32 = search rules in
    let lo : length c.bytes-2.result ≡ 32 = search rules in
    let z : c.fill.new.self ≡ replicate 273 0 = c.fill.ensures.after (λ y h. search (rules, h)) ∙ ap (λ n. replicate n 0) c.requires in
    put_is c.args.k (ap length i ∙ li) (ap length o ∙ lo) (i ∙ c.bytes.ensures) (o ∙ c.bytes-2.ensures) z
