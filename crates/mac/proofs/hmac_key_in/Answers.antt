-- `mac::hmac_key_in` meets its contract: the words that were put come back.
use Rattle.mac.proofs.HmacBytes.{key_back}
use Rattle.mac.proofs.hmac_key_in.Goals as goal

pub returns : goal.returns
returns c k e = key_back k c.args.kept.now _ _ e c.words_at.ensures c.words_at-2.ensures
