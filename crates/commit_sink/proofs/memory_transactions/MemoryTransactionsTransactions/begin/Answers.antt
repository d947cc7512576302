use Rattle.std.proofs.Common.{rules, ◌≡◌, ◌<◌, ◌+◌, ◌^◌, length, subst}
use Rattle.commit_sink.specs.Shares.{share_at, with_place}
use Rattle.commit_sink.proofs.Begun.{kept-begun}
use Rattle.commit_sink.proofs.memory_transactions.MemoryTransactionsTransactions.begin.Goals as goal

pub invariant_of-self-2 : goal.invariant_of-self-2
invariant_of-self-2 c =
    let few : length c.args.self.now.transactions.items + 1 < 2 ^ 64 = search rules in
    let begun : c.len.result ≡ length c.args.self.now.transactions.items = search rules in
    let own = subst (λ n. share_at c.promise_places.new.shares.items c.args.subtask ≡ with_place (share_at c.args.self.now.shares.items c.args.subtask) (n + 1)) begun c.in_ok-promise_places.ensures.share in
    record {
      kept = rw (c.push_reserved.ensures.items, c.reserve.ensures.items, c.with_room-entry.ensures, c.in_ok-promise_places.ensures.committed)
          (kept-begun c.args.self.now.subtasks c.args.self.now.transactions.items c.args.self.now.committed c.args.self.now.shares.items c.promise_places.new.shares.items c.args.subtask
          c.args.self.now.kept c.requires few own c.promise_places.ensures.others);
    }
