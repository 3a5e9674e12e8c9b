-- Runs of exported calls: lists of calls of which the contracts of the boundary, and nothing else, say what each gave and left; and what is claimed of
-- them. What the contracts say is a parameter, `Clauses`. `written` are the `ensures` of the calls of `osnma`, written out here, since a contract names nothing
-- that the checker makes; proofs/Boundary.antt has that they are what the checker makes of them, all that a caller learns.
-- For each call, from its parameters at entry and at exit (a parameter after the other, in the function's order; ' at exit): the state with what it was
-- lent in its places, what else it was given, the state that it left, and its reply.
use Rattle.std.specs.Prelude.{ℕ, ◌≡◌, List, [], ◌∷◌}
use Rattle.std.specs.Borrow.{Bor, MutBor}
use Rattle.regions.specs.Told.{told, subframe_told}
use Rattle.regions.specs.Told.{subframe as subframe_brought}
use Rattle.call_reads.specs.Reads.{set_told, offer_told, four_told, progress_told}
use Rattle.rules.specs.Calls.{Start, Word, Subframe, start_call, word_call, subframe_call, verdict_call}
use Rattle.rules.specs.Calls as S
use Rattle.rules.specs.Claim.{FairHistory, Refused}
use Rattle.rules.specs.FourLaws.{FourSatellites}
use Rattle.rules.specs.ProgressLaws.{MessageProgress}
use Rattle.rules.specs.Log.{Call, start, word, subframe, verdict, ask, Question, Reply, plain, subframe_reply, set_reply, offer_reply, four_reply, progress_reply, History, advanced, step}
use Rattle.rules.specs.Log as L
use Rattle.rules.specs.State.{State, state, word_lent, verdict_lent, set_lent, offer_lent, four_lent, progress_lent}
use Rattle.rules.specs.Verdict.{Verdict}
use Rattle.rules.specs.Sizes.{TagSizes}
use Rattle.rules.specs.Whole.{LostFields}

-- ---- a call that was made

-- what a contract says of parameters at entry, a number, and parameters at exit
abbrev pub Clause : Type 0 → Type 1
Clause Args = Args → ℕ → Args → Type 0

-- In the state s the call c gave this reply and left the state s': it was lent the regions of s, and its contract held. Of the call: its parameters at
-- entry and at exit, and what its contract says; then how parameters are read
pub record Made (Args : Type 0)
    (Learnt : Clause Args)
    (before : Args → State → State)
    (given : Args → Call)
    (after : Args → Args → State → State)
    (told : ℕ → Args → Reply)
    (s : State) (c : Call) (reply : Reply) (s' : State)
    : Type 0 where
  pub args : Args
  pub result : ℕ
  pub last : Args
  pub before_is : before args s ≡ s
  pub call_is : given args ≡ c
  pub after_is : after args last s ≡ s'
  pub reply_is : told result last ≡ reply
  pub learnt : Learnt args result last

-- what is lent to be read, or to be written, and a number that is put
abbrev pub Read : Type 0
Read = Bor (List ℕ)

abbrev pub Written : Type 0
Written = MutBor (List ℕ)

abbrev pub Put : Type 0
Put = MutBor ℕ

-- ---- start: all sixteen regions are written

-- its parameters, at entry or at exit, and its clause
abbrev pub StartArgs : Type 0
StartArgs = Written × (Written × (Written × (Written × (Written × (Written × (Written × (Written × (Written × (Written × (Written × (Written × (Written × (Written × (Written × (Written × (ℕ × (ℕ × (ℕ × (ℕ × (Read × (Read × (Read × Unit {0}))))))))))))))))))))))

abbrev pub StartLearnt : Clause StartArgs
StartLearnt (config, (clocks, (words, (stamps, (blocks, (headers, (present, (since, (pubkeys, (offer, (chain, (numbers, (heldkey, (waiting, (sets, (arrivals, (ns, (id, (kind, (maclt, (marks, (root, (pubkey, _))))))))))))))))))))))) r (config', (clocks', (words', (stamps', (blocks', (headers', (present', (since', (pubkeys', (offer', (chain', (numbers', (heldkey', (waiting', (sets', (arrivals', _)))))))))))))))) =
    told r (state config'.now clocks'.now words'.now stamps'.now blocks'.now headers'.now present'.now since'.now pubkeys'.now offer'.now chain'.now numbers'.now heldkey'.now waiting'.now sets'.now arrivals'.now)
    ≡ start_call (state config.now clocks.now words.now stamps.now blocks.now headers.now present.now since.now pubkeys.now offer.now chain.now numbers.now heldkey.now waiting.now sets.now arrivals.now) (record { ns = ns; id = id; type = kind; maclt = maclt; marks = marks.now; root = root.now; key = pubkey.now })

abbrev pub start_before : StartArgs → State → State
start_before (config, (clocks, (words, (stamps, (blocks, (headers, (present, (since, (pubkeys, (offer, (chain, (numbers, (heldkey, (waiting, (sets, (arrivals, _)))))))))))))))) s = state config.now clocks.now words.now stamps.now blocks.now headers.now present.now since.now pubkeys.now offer.now chain.now numbers.now heldkey.now waiting.now sets.now arrivals.now

abbrev pub start_given : StartArgs → Start
start_given (_, (_, (_, (_, (_, (_, (_, (_, (_, (_, (_, (_, (_, (_, (_, (_, (ns, (id, (kind, (maclt, (marks, (root, (pubkey, _))))))))))))))))))))))) = record { ns = ns; id = id; type = kind; maclt = maclt; marks = marks.now; root = root.now; key = pubkey.now }

abbrev pub start_after : StartArgs → StartArgs → State → State
start_after _ (config', (clocks', (words', (stamps', (blocks', (headers', (present', (since', (pubkeys', (offer', (chain', (numbers', (heldkey', (waiting', (sets', (arrivals', _)))))))))))))))) s = state config'.now clocks'.now words'.now stamps'.now blocks'.now headers'.now present'.now since'.now pubkeys'.now offer'.now chain'.now numbers'.now heldkey'.now waiting'.now sets'.now arrivals'.now

abbrev pub StartDid : Clause StartArgs → State → Call → Reply → State → Type 0
StartDid Learnt =
    Made StartArgs Learnt start_before (λ args. start (start_given args))
    start_after (λ r last. plain r)

-- ---- word: of its four regions clocks, words and stamps are written

-- its parameters, at entry or at exit, and its clause
abbrev pub WordArgs : Type 0
WordArgs = Read × (Written × (Written × (Written × (ℕ × (ℕ × (Read × Unit {0}))))))

abbrev pub WordLearnt : Clause WordArgs
WordLearnt (config, (clocks, (words, (stamps, (prn, (time, (bytes, _))))))) r (_, (clocks', (words', (stamps', _)))) =
    (s : State) → told r (word_lent s config.now clocks'.now words'.now stamps'.now)
    ≡ word_call (word_lent s config.now clocks.now words.now stamps.now) (record { prn = prn; time = time; bytes = bytes.now })

abbrev pub word_before : WordArgs → State → State
word_before (config, (clocks, (words, (stamps, _)))) s = word_lent s config.now clocks.now words.now stamps.now

abbrev pub word_given : WordArgs → Word
word_given (_, (_, (_, (_, (prn, (time, (bytes, _))))))) = record { prn = prn; time = time; bytes = bytes.now }

abbrev pub word_after : WordArgs → WordArgs → State → State
word_after (config, _) (_, (clocks', (words', (stamps', _)))) s = word_lent s config.now clocks'.now words'.now stamps'.now

abbrev pub WordDid : Clause WordArgs → State → Call → Reply → State → Type 0
WordDid Learnt =
    Made WordArgs Learnt word_before (λ args. word (word_given args))
    word_after (λ r last. plain r)

-- ---- sub-frame: all regions but words, stamps and chain are written, and the record area

-- its parameters, at entry or at exit, and its clause
abbrev pub SubframeArgs : Type 0
SubframeArgs = Written × (Written × (Read × (Read × (Written × (Written × (Written × (Written × (Written × (Written × (Read × (Written × (Written × (Written × (Written × (Written × (Written × (ℕ × (ℕ × (ℕ × (Read × (Put × (Put × Unit {0}))))))))))))))))))))))

abbrev pub SubframeLearnt : Clause SubframeArgs
SubframeLearnt (config, (clocks, (words, (stamps, (blocks, (headers, (present, (since, (pubkeys, (offer, (chain, (numbers, (heldkey, (waiting, (sets, (arrivals, (area, (prn, (time, (marks, (bytes, _))))))))))))))))))))) r (config', (clocks', (_, (_, (blocks', (headers', (present', (since', (pubkeys', (offer', (_, (numbers', (heldkey', (waiting', (sets', (arrivals', (area', (_, (_, (_, (_, (hkroot', (mack', _))))))))))))))))))))))) =
    subframe_told hkroot'.now mack'.now r (state config'.now clocks'.now words.now stamps.now blocks'.now headers'.now present'.now since'.now pubkeys'.now offer'.now chain.now numbers'.now heldkey'.now waiting'.now sets'.now arrivals'.now) area'.now
    ≡ subframe_call (state config.now clocks.now words.now stamps.now blocks.now headers.now present.now since.now pubkeys.now offer.now chain.now numbers.now heldkey.now waiting.now sets.now arrivals.now) area.now (subframe_brought prn time marks bytes.now)

abbrev pub subframe_before : SubframeArgs → State → State
subframe_before (config, (clocks, (words, (stamps, (blocks, (headers, (present, (since, (pubkeys, (offer, (chain, (numbers, (heldkey, (waiting, (sets, (arrivals, _)))))))))))))))) s = state config.now clocks.now words.now stamps.now blocks.now headers.now present.now since.now pubkeys.now offer.now chain.now numbers.now heldkey.now waiting.now sets.now arrivals.now

abbrev pub subframe_given : SubframeArgs → List ℕ × Subframe
subframe_given (_, (_, (_, (_, (_, (_, (_, (_, (_, (_, (_, (_, (_, (_, (_, (_, (area, (prn, (time, (marks, (bytes, _))))))))))))))))))))) = (area.now, record { prn = prn; time = time; marks = marks; bytes = bytes.now })

abbrev pub subframe_after : SubframeArgs → SubframeArgs → State → State
subframe_after (_, (_, (words, (stamps, (_, (_, (_, (_, (_, (_, (chain, _))))))))))) (config', (clocks', (_, (_, (blocks', (headers', (present', (since', (pubkeys', (offer', (_, (numbers', (heldkey', (waiting', (sets', (arrivals', _)))))))))))))))) s = state config'.now clocks'.now words.now stamps.now blocks'.now headers'.now present'.now since'.now pubkeys'.now offer'.now chain.now numbers'.now heldkey'.now waiting'.now sets'.now arrivals'.now

abbrev pub subframe_tells : ℕ → SubframeArgs → Reply
subframe_tells r (_, (_, (_, (_, (_, (_, (_, (_, (_, (_, (_, (_, (_, (_, (_, (_, (area', (_, (_, (_, (_, (hkroot', (mack', _))))))))))))))))))))))) = subframe_reply hkroot'.now mack'.now r area'.now

abbrev pub SubframeDid : Clause SubframeArgs → State → Call → Reply → State → Type 0
SubframeDid Learnt =
    Made SubframeArgs Learnt subframe_before (λ args. subframe (subframe_given args).0 (subframe_given args).1)
    subframe_after subframe_tells

-- ---- verdict: of its eight regions all but the settings are written

-- its parameters, at entry or at exit, and its clause
abbrev pub VerdictArgs : Type 0
VerdictArgs = Read × (Written × (Written × (Written × (Written × (Written × (Written × (Written × (ℕ × (ℕ × (Read × (Read × Unit {0})))))))))))

abbrev pub VerdictLearnt : Clause VerdictArgs
VerdictLearnt (config, (pubkeys, (offer, (chain, (numbers, (heldkey, (waiting, (arrivals, (good, (id, (message, (signature, _)))))))))))) r (_, (pubkeys', (offer', (chain', (numbers', (heldkey', (waiting', (arrivals', _)))))))) =
    (s : State) → told r (verdict_lent s config.now pubkeys'.now offer'.now chain'.now numbers'.now heldkey'.now waiting'.now arrivals'.now)
    ≡ verdict_call (verdict_lent s config.now pubkeys.now offer.now chain.now numbers.now heldkey.now waiting.now arrivals.now) (record { good = good; id = id; message = message.now; signature = signature.now })

abbrev pub verdict_before : VerdictArgs → State → State
verdict_before (config, (pubkeys, (offer, (chain, (numbers, (heldkey, (waiting, (arrivals, _)))))))) s = verdict_lent s config.now pubkeys.now offer.now chain.now numbers.now heldkey.now waiting.now arrivals.now

abbrev pub verdict_given : VerdictArgs → Verdict
verdict_given (_, (_, (_, (_, (_, (_, (_, (_, (good, (id, (message, (signature, _)))))))))))) = record { good = good; id = id; message = message.now; signature = signature.now }

abbrev pub verdict_after : VerdictArgs → VerdictArgs → State → State
verdict_after (config, _) (_, (pubkeys', (offer', (chain', (numbers', (heldkey', (waiting', (arrivals', _)))))))) s = verdict_lent s config.now pubkeys'.now offer'.now chain'.now numbers'.now heldkey'.now waiting'.now arrivals'.now

abbrev pub VerdictDid : Clause VerdictArgs → State → Call → Reply → State → Type 0
VerdictDid Learnt =
    Made VerdictArgs Learnt verdict_before (λ args. verdict (verdict_given args))
    verdict_after (λ r last. plain r)

-- ---- the read of an authentic set writes no region

-- its parameters, at entry or at exit, and its clause
abbrev pub ReadSetArgs : Type 0
ReadSetArgs = Read × (Read × (ℕ × (Written × (Put × (Put × Unit {0})))))

abbrev pub ReadSetLearnt : Clause ReadSetArgs
ReadSetLearnt (sets, (arrivals, (prn, (out, _)))) r (_, (_, (_, (out', (issue', (time', _)))))) =
    (s : State) → set_told r out'.now issue'.now time'.now ≡ S.set_read (set_lent s sets.now arrivals.now) prn out.now

abbrev pub read_set_before : ReadSetArgs → State → State
read_set_before (sets, (arrivals, _)) s = set_lent s sets.now arrivals.now

abbrev pub read_set_given : ReadSetArgs → Question
read_set_given (_, (_, (prn, (out, _)))) = L.set prn out.now

abbrev pub read_set_tells : ℕ → ReadSetArgs → Reply
read_set_tells r (_, (_, (_, (out', (issue', (time', _)))))) = set_reply (set_told r out'.now issue'.now time'.now)

abbrev pub ReadSetDid : Clause ReadSetArgs → State → Call → Reply → State → Type 0
ReadSetDid Learnt =
    Made ReadSetArgs Learnt read_set_before (λ args. ask (read_set_given args))
    (λ args last. read_set_before args) read_set_tells

-- ---- the read of what waits writes no region

-- its parameters, at entry or at exit, and its clause
abbrev pub ReadOfferArgs : Type 0
ReadOfferArgs = Read × (Read × (Written × (Written × (Written × (Put × (Put × Unit {0}))))))

abbrev pub ReadOfferLearnt : Clause ReadOfferArgs
ReadOfferLearnt (pubkeys, (offer, (message, (signature, (key, _))))) r (_, (_, (message', (signature', (key', (id', (kind', _))))))) =
    (s : State) → offer_told r message'.now signature'.now key'.now id'.now kind'.now ≡ S.offer_read (offer_lent s pubkeys.now offer.now) message.now signature.now key.now

abbrev pub read_offer_before : ReadOfferArgs → State → State
read_offer_before (pubkeys, (offer, _)) s = offer_lent s pubkeys.now offer.now

abbrev pub read_offer_given : ReadOfferArgs → Question
read_offer_given (_, (_, (message, (signature, (key, _))))) = L.offer message.now signature.now key.now

abbrev pub read_offer_tells : ℕ → ReadOfferArgs → Reply
read_offer_tells r (_, (_, (message', (signature', (key', (id', (kind', _))))))) = offer_reply (offer_told r message'.now signature'.now key'.now id'.now kind'.now)

abbrev pub ReadOfferDid : Clause ReadOfferArgs → State → Call → Reply → State → Type 0
ReadOfferDid Learnt =
    Made ReadOfferArgs Learnt read_offer_before (λ args. ask (read_offer_given args))
    (λ args last. read_offer_before args) read_offer_tells

-- ---- the question for four satellites writes no region

-- its parameters, at entry or at exit, and its clause
abbrev pub FourArgs : Type 0
FourArgs = Read × (Read × (ℕ × (Put × Unit {0})))

abbrev pub FourLearnt : Clause FourArgs
FourLearnt (clocks, (arrivals, (limit, _))) r (_, (_, (_, (yes', _)))) =
    (s : State) → four_told r yes'.now ≡ S.four_read (four_lent s clocks.now arrivals.now) limit

abbrev pub four_before : FourArgs → State → State
four_before (clocks, (arrivals, _)) s = four_lent s clocks.now arrivals.now

abbrev pub four_given : FourArgs → Question
four_given (_, (_, (limit, _))) = L.four limit

abbrev pub four_tells : ℕ → FourArgs → Reply
four_tells r (_, (_, (_, (yes', _)))) = four_reply (four_told r yes'.now)

abbrev pub FourDid : Clause FourArgs → State → Call → Reply → State → Type 0
FourDid Learnt =
    Made FourArgs Learnt four_before (λ args. ask (four_given args))
    (λ args last. four_before args) four_tells

-- ---- the question for the progress of messages writes no region

-- its parameters, at entry or at exit, and its clause
abbrev pub ProgressArgs : Type 0
ProgressArgs = Read × (Read × (Written × Unit {0}))

abbrev pub ProgressLearnt : Clause ProgressArgs
ProgressLearnt (blocks, (present, (out, _))) r (_, (_, (out', _))) =
    (s : State) → progress_told r out'.now ≡ S.progress_read (progress_lent s blocks.now present.now) out.now

abbrev pub progress_before : ProgressArgs → State → State
progress_before (blocks, (present, _)) s = progress_lent s blocks.now present.now

abbrev pub progress_given : ProgressArgs → Question
progress_given (_, (_, (out, _))) = L.progress out.now

abbrev pub progress_tells : ℕ → ProgressArgs → Reply
progress_tells r (_, (_, (out', _))) = progress_reply (progress_told r out'.now)

abbrev pub ProgressDid : Clause ProgressArgs → State → Call → Reply → State → Type 0
ProgressDid Learnt =
    Made ProgressArgs Learnt progress_before (λ args. ask (progress_given args))
    (λ args last. progress_before args) progress_tells

-- ---- the contracts of all eight

pub record Clauses : Type 1 where
  pub start : Clause StartArgs
  pub word : Clause WordArgs
  pub subframe : Clause SubframeArgs
  pub verdict : Clause VerdictArgs
  pub read_set : Clause ReadSetArgs
  pub read_offer : Clause ReadOfferArgs
  pub four : Clause FourArgs
  pub progress : Clause ProgressArgs

abbrev pub written : Clauses
written =
    record {
      start = StartLearnt;
      word = WordLearnt;
      subframe = SubframeLearnt;
      verdict = VerdictLearnt;
      read_set = ReadSetLearnt;
      read_offer = ReadOfferLearnt;
      four = FourLearnt;
      progress = ProgressLearnt;
    }

-- ---- a run

-- the exported call, in the state s, gave this reply and left the state s'
pub data Did (k : Clauses) (s : State) (c : Call) (reply : Reply) (s' : State) : Type 0 where
  started : StartDid k.start s c reply s' → Did k s c reply s'
  worded : WordDid k.word s c reply s' → Did k s c reply s'
  subframed : SubframeDid k.subframe s c reply s' → Did k s c reply s'
  judged : VerdictDid k.verdict s c reply s' → Did k s c reply s'
  set_read : ReadSetDid k.read_set s c reply s' → Did k s c reply s'
  offer_read : ReadOfferDid k.read_offer s c reply s' → Did k s c reply s'
  four_asked : FourDid k.four s c reply s' → Did k s c reply s'
  progress_asked : ProgressDid k.progress s c reply s' → Did k s c reply s'

-- a call, its reply, and the state that it left
pub record Done : Type 0 where
  pub call : Call
  pub reply : Reply
  pub left : State

-- "Each call gets the state that the last one, or the accepted start, left; nobody else writes it"
abbrev pub Run : Clauses → State → List Done → Type 0
Run k s [] = Unit {0}
Run k s (d ∷ ds) = Did k s d.call d.reply d.left × Run k d.left ds

-- the history that it adds to
abbrev pub history_of : History → List Done → History
history_of h [] = h
history_of h (d ∷ ds) = history_of (advanced h d.call d.reply.code d.reply d.left) ds

-- ---- the claim of the exported calls

pub record ClaimOf (k : Clauses) : Type 0 where
  -- every call gives and leaves what the rule says
  pub steps : (s s' : State) (c : Call) (r : Reply) → Did k s c r s' → step s c ≡ record { reply = r; state = s' }
  -- demand 3, of every run of exported calls after an accepted start
  pub fair : (s began : State) (x : Start) → Did k s (start x) (plain 0) began → (ds : List Done) → Run k began ds → FairHistory (history_of (record { origin = x; began = began; log = [] }) ds)
  pub begins : (s s' left left' : State) (x : Start) → Did k s (start x) (plain 0) left → Did k s' (start x) (plain 0) left' → left ≡ left'
  -- and of every state, what a refused call or half changes; by `steps` it is so of the exported calls
  pub refused : Refused
  -- 02, P3: with all marks 1 a sub-frame is judged as before, and what is lent for a field that did not come changes nothing; of the exported calls by
  -- `steps`
  pub lost_fields : LostFields
  -- 02, P4: with tags of 40 bits the tags of a section leave what they left before, and what holds of tags of every size; of the exported calls by
  -- `steps`
  pub tag_sizes : TagSizes
  -- 02, P5: what holds of the answer beside its rule; what a yes means stands in `fair`
  pub four_satellites : FourSatellites
  -- 02, P9: how a block that comes moves the progress of its message; what stands behind the numbers told is in `fair`
  pub message_progress : MessageProgress

-- of the exported calls
abbrev pub ExportedClaim : Type 0
ExportedClaim = ClaimOf written
