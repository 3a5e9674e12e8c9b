-- `hash_vectors::published_examples` carries the examples in its contract. Assumes nothing.
use Rattle.hash_vectors.proofs.Aes.{aes_examples}
use Rattle.hash_vectors.proofs.Cmac.{cmac_examples}
use Rattle.hash_vectors.proofs.Mac.{hmac_examples}
use Rattle.hash_vectors.proofs.Sha.{sha_examples}
use Rattle.hash_vectors.proofs.Sha3.{sha3_examples}
use Rattle.hash_vectors.proofs.published_examples.Goals as goal

pub returns : goal.returns
returns c = ((sha_examples, (sha3_examples, hmac_examples)), (aes_examples, cmac_examples))
