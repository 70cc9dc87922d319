-- The commands of the program as rows.
use Rattle.std.specs.Prelude.{map, string_bytes}
use Rattle.std.specs.Option.{option_map}
use Rattle.tool_words.specs.Words.{Row, places_named}
use Rattle.tool_words.specs.Words as words
use Rattle.tool_words.specs.declared.command.Command.{Command}
use Rattle.tool_words.specs.declared.command.Command.TheVariants.{Verify, Rehearse, Deal, Enrol, Migrate, Approve}
use Rattle.tool_words.specs.declared.command.Command.TheVariants.{Trustee, Sign, Blame, HssCheck, HssSign}
use Rattle.tool_words.specs.declared.command.Command.TheVariants.{Aggregate, Drill, Show}
use Rattle.tool_words.specs.declared.aggregate_words.AggregateWords.{AggregateWords}
use Rattle.tool_words.specs.declared.deal_words.DealWords.{DealWords}
use Rattle.tool_words.specs.declared.hss_sign_words.HssSignWords.{HssSignWords}
use Rattle.tool_words.specs.declared.sign_words.SignWords.{SignWords}
use Rattle.tool_words.specs.declared.trustee_words.TrusteeWords.{TrusteeWords}

-- the words of `deal`, each as its bytes
abbrev pub deal_words : DealWords → words.DealWords
deal_words deal = record {
  entropy = deal.entropy.now;
  lms = deal.lms;
  ots = deal.ots;
  n = deal.n;
  k = deal.k;
  prefix = deal.prefix.now;
  commit = deal.commit;
  large = deal.large;
}

-- the words of `trustee`, each as its bytes
abbrev pub trustee_words : TrusteeWords → words.TrusteeWords
trustee_words trustee = record {
  share = trustee.share.now;
  journal = trustee.journal.now;
  place = trustee.place.now;
  workers = trustee.workers;
  connections = trustee.connections;
  book = option_map (λ book. book.now) trustee.book;
}

-- the words of `sign` or of `blame`, each as its bytes
abbrev pub sign_words : SignWords → words.SignWords
sign_words sign = record {
  prefix = sign.prefix.now;
  table = sign.table.now;
  message = sign.message.now;
  out = sign.out.now;
  places = places_named (map string_bytes sign.places.words.now);
}

-- the words of `hss sign`, each as its bytes
abbrev pub hss_sign_words : HssSignWords → words.HssSignWords
hss_sign_words sign = record {
  prefix = sign.prefix.now;
  table = sign.table.now;
  low_key = sign.low_key.now;
  low_signature = sign.low_signature.now;
  message = sign.message.now;
  key_out = sign.key_out.now;
  signature_out = sign.signature_out.now;
  places = places_named (map string_bytes sign.places.words.now);
}

-- the words of `aggregate`, each as its bytes
abbrev pub aggregate_words : AggregateWords → words.AggregateWords
aggregate_words aggregate = record {
  prefix = aggregate.prefix.now;
  table = aggregate.table.now;
  place = aggregate.place.now;
  workers = aggregate.workers;
  connections = aggregate.connections;
  places = places_named (map string_bytes aggregate.places.words.now);
}

-- the bytes of the command's words
abbrev pub row : Command → Row
row (Verify key message signature) = words.Verify key.now message.now signature.now
row (Rehearse entropy message key_out signature_out) =
    words.Rehearse entropy.now message.now key_out.now signature_out.now
row (Deal deal) = words.Deal (deal_words deal)
row (Enrol file journal) = words.Enrol file.now journal.now
row (Migrate share journal new) = words.Migrate share.now journal.now new.now
row (Approve share book message) = words.Approve share.now book.now message.now
row (Trustee trustee) = words.Trustee (trustee_words trustee)
row (Sign sign) = words.Sign (sign_words sign)
row (Blame blame) = words.Blame (sign_words blame)
row (HssCheck key message signature) = words.HssCheck key.now message.now signature.now
row (HssSign sign) = words.HssSign (hss_sign_words sign)
row (Aggregate aggregate) = words.Aggregate (aggregate_words aggregate)
row (Drill drill) = words.Drill drill.number drill.sessions drill.events
row (Show file leaves) = words.Show file.now leaves
