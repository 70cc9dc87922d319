-- Which count rose, by the end of the command.
use Rattle.std.proofs.Common.{arith}
use Rattle.disk_trait.specs.Faults.{Rose}
use Rattle.tool_base.specs.Ending as ending
use Rattle.tool_base.specs.Ending.{Ending}
use Rattle.tool_base.specs.Touched.{DeviceRose}
use Rattle.tool_base.specs.World.{StoreRun}
use Rattle.tool_blame.specs.Blame.{BlameRun}
use Rattle.tool_blame.proofs.Origins.{blame-comes}
use Rattle.tool_sign.proofs.Causes.{counted, signs-counted, task-counted}
use Rattle.tool_sign.proofs.Origins.{Comes, upto-comes}
use Rattle.tool_sign.specs.Ports.{NetRun}
use Rattle.tool_sign.specs.Sign.{session_words}
use Rattle.tool_sign.specs.Tasks.{message_in, message_limit}
use Rattle.tool_words.specs.Words.{SignWords}

module _ (words : SignWords) (store : StoreRun) (net : NetRun) where
  ends-counted : (end : Ending) → BlameRun words store net end → Comes (counted store net) end
  ends-counted end run =
      blame-comes (counted store net) words store net
      (record {
        failed = λ failed. failed.rose;
        task = task-counted store net (session_words words) (message_in store words.message)
            (λ one fails. upto-comes (counted store net) store message_limit words.message one (λ read. read.0) fails);
        signs = signs-counted store net (session_words words) (message_in store words.message);
        commits = λ read. read.0;
        reads = λ header reads steady are rose never.
            let fresh = are.fresh in
            let rise = are.rise in
            omega (arith, rose, fresh, rise);
      })
      end run.touched run.ends

  pub store-rose : BlameRun words store net ending.StoreFailed → Rose store.before.count store.after.count
  store-rose run = ends-counted ending.StoreFailed run

  pub device-rose : BlameRun words store net ending.DeviceFailed → DeviceRose store
  device-rose run = ends-counted ending.DeviceFailed run

  pub net-rose : BlameRun words store net ending.NetFailed → Rose net.before.port_count net.after.port_count
  net-rose run = ends-counted ending.NetFailed run
