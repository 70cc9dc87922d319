use Rattle.std.proofs.Common.{refl}
use Rattle.tool_base.proofs.Runs.{back_unchanged, unchanged_none}
use Rattle.tool_run.proofs.Running.{all_done, kept, untouched}
use Rattle.tool_run.proofs.tool.run_on_store.Goals as goal

pub returns-in-Verify : goal.returns-in-Verify
returns-in-Verify g c =
    let done = c.verify_files.ensures in
    record {
      ended = λ net time. rw c.in-Verify.is (untouched _ _ _ _ done.unchanged refl done.ended);
      back = back_unchanged _ _ done.unchanged;
    }

pub returns-in-Rehearse : goal.returns-in-Rehearse
returns-in-Rehearse g c = record {
  ended = λ net time. rw c.in-Rehearse.is (record { run = c.rehearse_files.ensures.ended; net = refl });
  back = c.rehearse_files.ensures.back;
}

pub returns-in-Enrol : goal.returns-in-Enrol
returns-in-Enrol g c = record {
  ended = λ net time. rw c.in-Enrol.is (record { run = c.enrol_file.ensures.ended; net = refl });
  back = c.enrol_file.ensures.ended.keeps.back;
}

pub returns-in-Migrate : goal.returns-in-Migrate
returns-in-Migrate g c = record {
  ended = λ net time. rw c.in-Migrate.is (record { run = c.migrate_journal.ensures.ended; net = refl });
  back = c.migrate_journal.ensures.ended.keeps.back;
}

pub returns-in-Approve : goal.returns-in-Approve
returns-in-Approve g c = record {
  ended = λ net time. rw c.in-Approve.is (record { run = c.approve_message.ensures.ended; net = refl });
  back = c.approve_message.ensures.ended.keeps.back;
}

pub returns-in-HssCheck : goal.returns-in-HssCheck
returns-in-HssCheck g c =
    let done = c.hss_check_files.ensures in
    record {
      ended = λ net time. rw c.in-HssCheck.is (untouched _ _ _ _ done.unchanged refl done.ended);
      back = back_unchanged _ _ done.unchanged;
    }

pub returns-in-Drill : goal.returns-in-Drill
returns-in-Drill g c = record {
  ended = λ net time. rw c.in-Drill.is (untouched _ _ _ _ (unchanged_none _) refl (c.drill_sessions.ensures, refl));
  back = back_unchanged _ _ (unchanged_none _);
}

pub returns-in-Show : goal.returns-in-Show
returns-in-Show g c =
    let done = c.show_file.ensures in
    record {
      ended = λ net time. rw c.in-Show.is (kept _ _ _ _ done.keeps refl (done.ended, refl));
      back = done.keeps.back;
    }

pub unreachable-requires : goal.unreachable-requires
unreachable-requires g c = all_done _ c.requires.alone c.in_default.not-Verify c.in_default.not-Rehearse c.in_default.not-Enrol c.in_default.not-Migrate c.in_default.not-Approve
    c.in_default.not-HssCheck c.in_default.not-Drill c.in_default.not-Show

pub rehearse_files-requires : goal.rehearse_files-requires
rehearse_files-requires g c = (c.type_bounds.send-S-Disk, (c.type_bounds.send-S-View, rw c.in-Rehearse.is at c.requires.differ))
