-- Headers of the files of a trustee.
use Rattle.share_files.specs.declared.share.Share.{Share}
use Rattle.slot_file.specs.declared.header.Header.{Header}

-- this project's profile: the header of a trustee's book
abbrev pub book_header : Share → Header
book_header share = record {
  version = 3;
  number = share.member;
  lms = share.params.lms;
  ots = share.params.ots;
  id = share.id;
}
