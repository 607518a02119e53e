use Rattle.udb_yaml.proofs.TextLemmas.{lines_row, lines_last, count_cut, column_cut, feed_cut}
use Rattle.udb_yaml.proofs.reader.first_row.Goals as goal

pub returns-then-end-bytes-clause-lines : goal.returns-then-end-bytes-clause-lines
returns-then-end-bytes-clause-lines c = lines_row c.args.text.now c.as_bytes-bytes.result.now c.feed-end.result c.without_return-count.result c.front-column.result c.as_bytes-bytes.ensures.value c.requires c.feed-end.ensures.place c.feed-end.ensures.within c.without_return-count.ensures.content c.without_return-count.ensures.within c.front-column.ensures.count c.if-end-bytes.true

pub returns-then-end-bytes-clause-count : goal.returns-then-end-bytes-clause-count
returns-then-end-bytes-clause-count c = count_cut c.args.text.now c.as_bytes-bytes.result.now c.feed-end.result c.without_return-count.result c.as_bytes-bytes.ensures.value c.feed-end.ensures.within c.feed-end.ensures.next c.without_return-count.ensures.within c.without_return-count.ensures.next

pub returns-then-end-bytes-clause-column : goal.returns-then-end-bytes-clause-column
returns-then-end-bytes-clause-column c = column_cut c.args.text.now c.as_bytes-bytes.result.now c.without_return-count.result c.front-column.result c.as_bytes-bytes.ensures.value c.utf8.text (count_cut c.args.text.now c.as_bytes-bytes.result.now c.feed-end.result c.without_return-count.result c.as_bytes-bytes.ensures.value c.feed-end.ensures.within c.feed-end.ensures.next c.without_return-count.ensures.within c.without_return-count.ensures.next) c.front-column.ensures.count

pub returns-then-end-bytes-clause-length : goal.returns-then-end-bytes-clause-length
returns-then-end-bytes-clause-length c = feed_cut c.args.text.now c.as_bytes-bytes.result.now c.feed-end.result c.as_bytes-bytes.ensures.value c.utf8.text c.if-end-bytes.true c.feed-end.ensures.next

pub returns-else-end-bytes-clause-lines : goal.returns-else-end-bytes-clause-lines
returns-else-end-bytes-clause-lines c = lines_last c.args.text.now c.as_bytes-bytes.result.now c.feed-end.result c.without_return-count.result c.front-column.result c.as_bytes-bytes.ensures.value c.requires c.feed-end.ensures.place c.feed-end.ensures.within c.without_return-count.ensures.content c.without_return-count.ensures.within c.front-column.ensures.count c.if-end-bytes.false

pub returns-else-end-bytes-clause-count : goal.returns-else-end-bytes-clause-count
returns-else-end-bytes-clause-count c = count_cut c.args.text.now c.as_bytes-bytes.result.now c.feed-end.result c.without_return-count.result c.as_bytes-bytes.ensures.value c.feed-end.ensures.within c.feed-end.ensures.next c.without_return-count.ensures.within c.without_return-count.ensures.next

pub returns-else-end-bytes-clause-column : goal.returns-else-end-bytes-clause-column
returns-else-end-bytes-clause-column c = column_cut c.args.text.now c.as_bytes-bytes.result.now c.without_return-count.result c.front-column.result c.as_bytes-bytes.ensures.value c.utf8.text (count_cut c.args.text.now c.as_bytes-bytes.result.now c.feed-end.result c.without_return-count.result c.as_bytes-bytes.ensures.value c.feed-end.ensures.within c.feed-end.ensures.next c.without_return-count.ensures.within c.without_return-count.ensures.next) c.front-column.ensures.count
