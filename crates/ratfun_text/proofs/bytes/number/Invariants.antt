-- Reading on from the number so far gives the number of the whole text.
use Rattle.std.proofs.Common.{◌≡◌, ◌^◌, drop}
use Rattle.ratfun_text.specs.Bytes.{number_below}
use Rattle.ratfun_text.proofs.Texts.{read_from}
use Rattle.ratfun_text.proofs.bytes.number.Given as goal

abbrev pub invariant-loop-byte : goal.invariant-loop-byte
invariant-loop-byte l = read_from (2 ^ 128) l.value (drop l.byte-index l.text) ≡ number_below (2 ^ 128) l.text
